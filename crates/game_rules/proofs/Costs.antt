-- What the search costs at an end and after a move, and that its order of moves changes no answer.
use Rattle.std.proofs.Common.{◌≡◌, ◌⊎◌, ℕ, zero, suc, ◌+◌, ◌<◌, ◌≤◌, Bool, true, false, not, ◌==◌, ◌||◌, cond, List, [], ◌∷◌, length, filter, Some, None}
use Rattle.std.proofs.Common.{is_some, refl, sym, ap, ◌∙◌, inl, inr, arith}
use Rattle.std.specs.List.{list_any}
use Rattle.std.proofs.lemmas.Bool.{cases_Bool, eq-eqb}
use Rattle.game_rules.specs.Board.{below}
use Rattle.game_rules.specs.Position.{Position, same_side, has_room, end_of, empty_count, after_move, side_to_move, moved}
use Rattle.game_rules.specs.Value.{wins}
use Rattle.game_rules.specs.Cost.{distance, centre_out, moved_out, decides, count_until, count_within, count, cost}
use Rattle.game_rules.proofs.Lists.{Among, any_from, any_agree, any_same, any_map, all_any, Among-filter, Among-filter_gives, Among-flat_map}
use Rattle.game_rules.proofs.Lists.{Among-flat_map_gives, Among-below, Among-below_gives}
use Rattle.game_rules.proofs.Moves.{same_side_is, other_side}
use Rattle.game_rules.proofs.Values.{emptied, goes_on_empty, wins_own, wins_other}
use Rattle.game_rules.specs.declared.Side.{Side}
use Rattle.game_rules.specs.declared.Side.TheVariants.{White, Black}

-- ---- the order of moves

-- a column is less than the number of columns away from the middle
distance_below : (cols column : ℕ) → column < cols → distance cols column < cols
distance_below cols column h = omega arith

-- the order has each column of the board, and no other
pub Among-centre_out : (cols column : ℕ) → column < cols → Among column (centre_out cols)
Among-centre_out cols column h =
    let far = distance cols column in
    Among-flat_map (λ far. filter (λ c. distance cols c == far) (below cols)) (below cols) far column
    (Among-below cols far (distance_below cols column h))
    (Among-filter (λ c. distance cols c == far) (below cols) column (Among-below cols column h) (eq-eqb far far refl))

pub Among-centre_out_gives : (cols column : ℕ) → Among column (centre_out cols) → column < cols
Among-centre_out_gives cols column among =
    let found = Among-flat_map_gives (λ far. filter (λ c. distance cols c == far) (below cols)) (below cols) column among in
    Among-below_gives cols column (Among-filter_gives (λ c. distance cols c == found.0) (below cols) column found.2).0

-- a test of some position after a move doesn't see the order
pub any_out : (test : Position → Bool) (p : Position) → list_any test (moved_out p) ≡ list_any test (moved p)
any_out test p =
    let cols = length p.columns in
    any_map test (after_move p) (filter (has_room p) (centre_out cols))
    ∙ any_agree (λ c. test (after_move p c)) (λ c. test (after_move p c)) (filter (has_room p) (centre_out cols)) (filter (has_room p) (below cols))
    (λ c among passes. let kept = Among-filter_gives (has_room p) (centre_out cols) c among in
    any_from (λ c. test (after_move p c)) (filter (has_room p) (below cols)) c
    (Among-filter (has_room p) (below cols) c (Among-below cols c (Among-centre_out_gives cols c kept.0)) kept.1) passes)
    (λ c among passes. let kept = Among-filter_gives (has_room p) (below cols) c among in
    any_from (λ c. test (after_move p c)) (filter (has_room p) (centre_out cols)) c
    (Among-filter (has_room p) (centre_out cols) c (Among-centre_out cols c (Among-below_gives cols c kept.0)) kept.1) passes)
    ∙ sym (any_map test (after_move p) (filter (has_room p) (below cols)))

-- Whether the side wins: with it to move where a move decides, with the other side to move where none does.
pub wins_step : (side : Side) (p : Position) → end_of p ≡ None
    → wins side p ≡ cond (same_side side (side_to_move p)) (list_any (decides side p) (moved_out p)) (not (list_any (decides side p) (moved_out p)))
wins_step side p h = elim (cases_Bool (same_side side (side_to_move p))) [
  | inl own ↦ cond_at _ _ _ _ own (wins_own side p h (sym (same_side_is side (side_to_move p) own)) ∙ sym (any_out (wins side) p)
      ∙ any_same (wins side) (decides side p) (moved_out p) (λ q among. rw own refl))
  | inr turn ↦ cond_past _ _ _ _ turn (wins_other side p h (other_side side (side_to_move p) turn) ∙ all_any (wins side) (moved p)
      ∙ ap not (sym (any_out (λ q. not (wins side q)) p)
      ∙ any_same (λ q. not (wins side q)) (decides side p) (moved_out p) (λ q among. rw turn refl)))
]
  where
    cond_at : (b c d e : Bool) → b ≡ true → c ≡ d → c ≡ cond b d e
    cond_at b c d e h same = rw h same

    cond_past : (b c d e : Bool) → b ≡ false → c ≡ e → c ≡ cond b d e
    cond_past b c d e h same = rw h same

-- ---- the count

moved_out_empty : (p q : Position) → Among q (moved_out p) → empty_count q + 1 ≡ empty_count p
moved_out_empty p q among =
    emptied p q (filter (has_room p) (centre_out (length p.columns))) (λ column h. (Among-filter_gives (has_room p) (centre_out (length p.columns)) column h).1)
    among

until_same : (test : Position → Bool) (f g : Position → ℕ) (qs : List Position) → ((q : Position) → Among q qs → f q ≡ g q)
    → count_until test f qs ≡ count_until test g qs
until_same test f g [] same = refl
until_same test f g (q ∷ qs) same =
    ap (λ n. n + cond (test q) 0 (count_until test f qs)) (same q (inl refl))
    ∙ ap (λ n. g q + cond (test q) 0 n) (until_same test f g qs (λ r among. same r (inr among)))

module _ (closed : Side → Position → Bool) where
  full_once : (n : ℕ) (side : Side) (p : Position) → empty_count p ≡ 0 → count_within closed n side p ≡ 1
  unfolding count_within
  full_once zero side p h = refl
  full_once (suc n) side p h = elim (ended_or_goes (end_of p) refl) [
    | inl ended ↦ rw ended refl
    | inr goes ↦ absurd (omega (arith, goes_on_empty p goes))
  ]
    where
      ended_or_goes : (e : _) → e ≡ end_of p → (is_some (end_of p) ≡ true) ⊎ (end_of p ≡ None)
      ended_or_goes None h = inr (sym h)
      ended_or_goes (Some e) h = inl (rw (← h) refl)

  enough : (n m : ℕ) (side : Side) (p : Position) → empty_count p ≤ n → empty_count p ≤ m → count_within closed n side p ≡ count_within closed m side p
  unfolding count_within
  enough zero m side p left right = sym (full_once m side p (omega arith))
  enough (suc n) zero side p left right = full_once (suc n) side p (omega arith)
  enough (suc n) (suc m) side p left right =
      ap (λ rest. cond (is_some (end_of p) || closed side p) 1 (1 + rest))
      (until_same (decides side p) (count_within closed n side) (count_within closed m side) (moved_out p)
      (λ q among. let one : empty_count q + 1 ≡ empty_count p = moved_out_empty p q among in enough n m side q (omega arith) (omega arith)))

  -- a position at which the question is answered without a move counts as one
  pub count_closed : (side : Side) (p : Position) → (is_some (end_of p) || closed side p) ≡ true → count closed side p ≡ 1
  unfolding count count_within
  count_closed side p h = at (empty_count p)
    where
      at : (n : ℕ) → count_within closed n side p ≡ 1
      at zero = refl
      at (suc n) = rw h refl

  -- elsewhere the count is one more than those up to the first move that decides
  pub count_step : (side : Side) (p : Position) → end_of p ≡ None → closed side p ≡ false
      → count closed side p ≡ 1 + count_until (decides side p) (count closed side) (moved_out p)
  unfolding count count_within
  count_step side p goes going = step (empty_count p) refl (goes_on_empty p goes)
    where
      step : (n : ℕ) → n ≡ empty_count p → 0 < n → count_within closed n side p ≡ 1 + count_until (decides side p) (count closed side) (moved_out p)
      step zero e low = absurd (omega arith)
      step (suc n) e low = rw (goes, going) (ap (λ rest. 1 + rest) (until_same (decides side p) (count_within closed n side) (count closed side) (moved_out p)
          (λ q among. let one : empty_count q + 1 ≡ empty_count p = moved_out_empty p q among in enough n (empty_count q) side q (omega arith) (omega arith))))

  pub count_positive : (side : Side) (p : Position) → 1 ≤ count closed side p
  unfolding count count_within
  count_positive side p = at (empty_count p)
    where
      at : (n : ℕ) → 1 ≤ count_within closed n side p
      at zero = omega arith
      at (suc n) = elim (cases_Bool (is_some (end_of p) || closed side p)) [
        | inl closed_here ↦ rw closed_here (omega arith)
        | inr open_here ↦ rw open_here (omega arith)
      ]

  pub cost_won : (p : Position) → wins White p ≡ true → cost closed p ≡ count closed White p
  unfolding cost
  cost_won p h = rw h (omega arith)

  pub cost_both : (p : Position) → wins White p ≡ false → cost closed p ≡ count closed White p + count closed Black p
  unfolding cost
  cost_both p h = rw h refl

  pub cost_first : (p : Position) → count closed White p ≤ cost closed p
  unfolding cost
  cost_first p = omega arith
