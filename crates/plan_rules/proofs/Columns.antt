-- The men on some squares of one column: which man stands where, how many there are, and what one man more changes.
use Rattle.std.proofs.Common.{◌≡◌, ◌≢◌, ℕ, zero, suc, ◌+◌, ◌<◌, ◌≤◌, true, List, [], ◌∷◌, ◌++◌, length, Option, Some, None, refl, sym, ap, ◌∙◌, inl, inr, arith}
use Rattle.std.specs.List.{slice_get}
use Rattle.std.proofs.lemmas.Bool.{cases_lt}
use Rattle.game_rules.specs.Board.{Square}
use Rattle.game_rules.specs.Position.{Position, men_in, height, man_at, side_to_move, after_move}
use Rattle.game_rules.specs.Squares.{is_playable}
use Rattle.game_rules.specs.declared.Side.{Side}
use Rattle.game_rules.proofs.Lists.{Among}
use Rattle.game_rules.proofs.Moves.{man_past}
use Rattle.plan_rules.specs.Squares.{above, column_up, put_first, men_on}
use Rattle.plan_rules.proofs.Squares.{other_column, other_row, column_gives}
use Rattle.plan_rules.proofs.Turns.{filled_under, playable_parts, placed, beside, height_here}

-- past the height of the column there is no man
pub none_on : (q : Position) (n : ℕ) (u : Square) → height q u.0 < u.1 → men_on q (column_up u n) ≡ []
none_on q zero u past = refl
none_on q (suc n) u past =
    let none : man_at q u ≡ None = man_past (men_in q u.0) u.1 past in
    ap (λ m. put_first m (men_on q (column_up (above u) n))) none ∙ none_on q n (above u) (omega arith)

pub man_on : (q : Position) (n : ℕ) (u : Square) (i : ℕ) → 1 ≤ u.1 → i < n → slice_get (men_on q (column_up u n)) i ≡ man_at q (u.0, u.1 + i)
man_on q zero u i low within = absurd (omega arith)
man_on q (suc n) u i low within = elim (cases_lt (height q u.0) u.1) [
  | inl past ↦ ap (λ men. slice_get men i) (none_on q (suc n) u past) ∙ sym (man_past (men_in q u.0) (u.1 + i) (omega arith))
  | inr under ↦ filled i within (filled_under q u low under) (λ j less. man_on q n (above u) j (omega arith) less)
]
  where
    filled : (i : ℕ) → i < suc n → (m : Side) × (man_at q u ≡ Some m)
        → ((j : ℕ) → j < n → slice_get (men_on q (column_up (above u) n)) j ≡ man_at q (u.0, u.1 + 1 + j))
        → slice_get (men_on q (column_up u (suc n))) i ≡ man_at q (u.0, u.1 + i)
    filled zero within some rest =
        ap (λ m. slice_get (put_first m (men_on q (column_up (above u) n))) 0) some.1
        ∙ sym some.1 ∙ ap (λ r. man_at q (u.0, r)) (omega arith)
    filled (suc j) within some rest =
        ap (λ m. slice_get (put_first m (men_on q (column_up (above u) n))) (suc j)) some.1
        ∙ rest j (omega arith) ∙ ap (λ r. man_at q (u.0, r)) (omega arith)

pub length_within : (q : Position) (n : ℕ) (u : Square) → length (men_on q (column_up u n)) ≤ n
length_within q zero u = omega arith
length_within q (suc n) u = more (man_at q u) (length_within q n (above u))
  where
    more : (m : Option Side) → length (men_on q (column_up (above u) n)) ≤ n → length (put_first m (men_on q (column_up (above u) n))) ≤ suc n
    more None low = omega arith
    more (Some m) low = omega arith

-- the men reach up to the height of the column
pub length_on : (q : Position) (n : ℕ) (u : Square) → 1 ≤ u.1 → u.1 ≤ height q u.0 + 1 → height q u.0 + 1 ≤ u.1 + n
    → u.1 + length (men_on q (column_up u n)) ≡ height q u.0 + 1
length_on q zero u low under high = omega arith
length_on q (suc n) u low under high = elim (cases_lt (height q u.0) u.1) [
  | inl past ↦ omega (arith, ap length (none_on q (suc n) u past))
  | inr within ↦
      let some = filled_under q u low within in
      omega (arith, ap (λ m. length (put_first m (men_on q (column_up (above u) n)))) some.1, length_on q n (above u) (omega arith) (omega arith) (omega arith))
]

-- a column that is filled past the squares has a man on each
pub length_full : (q : Position) (n : ℕ) (u : Square) → 1 ≤ u.1 → u.1 + n ≤ height q u.0 + 1 → length (men_on q (column_up u n)) ≡ n
length_full q zero u low high = refl
length_full q (suc n) u low high =
    let some = filled_under q u low (omega arith) in
    omega (arith, ap (λ m. length (put_first m (men_on q (column_up (above u) n)))) some.1, length_full q n (above u) (omega arith) (omega arith))

pub same_on : (q r : Position) (us : List Square) → ((u : Square) → Among u us → man_at r u ≡ man_at q u) → men_on r us ≡ men_on q us
same_on q r [] same = refl
same_on q r (u ∷ us) same =
    ap (λ m. put_first m (men_on r us)) (same u (inl refl)) ∙ ap (λ men. put_first (man_at q u) men) (same_on q r us (λ v among. same v (inr among)))

-- a man in another column
pub beside_on : (q : Position) (s : Square) (n : ℕ) (u : Square) → is_playable q s ≡ true → u.0 ≢ s.0
    → men_on (after_move q s.0) (column_up u n) ≡ men_on q (column_up u n)
beside_on q s n u playable apart = same_on q (after_move q s.0) (column_up u n) (λ v among.
    beside q s v playable (other_column v s (λ same. apart (sym (ap (λ (v : Square). v.0) (column_gives u n v among).2) ∙ same))))

-- a man more on the squares
pub pushed_on : (q : Position) (s : Square) (m : Side) (n : ℕ) (u : Square) → is_playable q s ≡ true → side_to_move q ≡ m → 1 ≤ u.1 → u.0 ≡ s.0 → u.1 ≤ s.1
    → s.1 < u.1 + n
    → men_on (after_move q s.0) (column_up u n) ≡ men_on q (column_up u n) ++ m ∷ []
pushed_on q s m zero u playable side low same under high = absurd (omega arith)
pushed_on q s m (suc n) u playable side low same under high = elim (cases_lt u.1 s.1) [
  | inl below ↦
      let some = filled_under q u low (omega (arith, (playable_parts q s playable).1, ap (height q) same)) in
      let now = beside q s u playable (other_row u s (λ row. omega arith)) ∙ some.1 in
      ap (λ m. put_first m (men_on (after_move q s.0) (column_up (above u) n))) now
      ∙ ap (λ men. some.0 ∷ men) (pushed_on q s m n (above u) playable side (omega arith) same (omega arith) (omega arith))
      ∙ ap (λ k. put_first k (men_on q (column_up (above u) n)) ++ m ∷ []) (sym some.1)
  | inr here ↦ first (square u s same (omega arith))
]
  where
    square : (u s : Square) → u.0 ≡ s.0 → u.1 ≡ s.1 → u ≡ s
    square (a, b) (c, d) column row = rw (column, row) refl

    first : u ≡ s → men_on (after_move q s.0) (column_up u (suc n)) ≡ men_on q (column_up u (suc n)) ++ m ∷ []
    first at =
        let parts = playable_parts q s playable in
        let now : man_at (after_move q s.0) u ≡ Some m = ap (man_at (after_move q s.0)) at ∙ placed q s playable ∙ ap (λ side. Some side) side in
        let none_now : men_on (after_move q s.0) (column_up (above u) n) ≡ [] =
        none_on (after_move q s.0) n (above u)
        (omega (arith, height_here q s playable, parts.1, ap (λ (v : Square). v.1) at, ap (height (after_move q s.0)) (ap (λ (v : Square). v.0) at))) in
        let none_before : men_on q (column_up u (suc n))
        ≡ [] = none_on q (suc n) u (omega (arith, parts.1, ap (λ (v : Square). v.1) at, ap (height q) (ap (λ (v : Square). v.0) at))) in
        ap (λ k. put_first k (men_on (after_move q s.0) (column_up (above u) n))) now ∙ ap (λ men. m ∷ men) none_now
        ∙ ap (λ men. men ++ m ∷ []) (sym none_before)

pub men_on_append : (q : Position) (us vs : List Square) → men_on q (us ++ vs) ≡ men_on q us ++ men_on q vs
men_on_append q [] vs = refl
men_on_append q (u ∷ us) vs = more (man_at q u) (men_on_append q us vs)
  where
    more : (m : Option Side) → men_on q (us ++ vs) ≡ men_on q us ++ men_on q vs → put_first m (men_on q (us ++ vs)) ≡ put_first m (men_on q us) ++ men_on q vs
    more None h = h
    more (Some m) h = ap (λ men. m ∷ men) h
