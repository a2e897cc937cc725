-- The value at an end and after a move, and who wins by it.
use Rattle.std.proofs.Common.{◌≡◌, ◌⊎◌, ℕ, zero, suc, ◌+◌, ◌<◌, ◌≤◌, Bool, true, false, not, ◌&&◌, ◌||◌, cond, List, [], ◌∷◌, map, subst, length, Some, None}
use Rattle.std.proofs.Common.{refl, sym, ap, ◌∙◌, inl, inr, arith}
use Rattle.std.specs.List.{list_any, list_all}
use Rattle.std.proofs.lemmas.Bool.{cases_Bool, true_from_ne_false}
use Rattle.game_rules.specs.Board.{below}
use Rattle.game_rules.specs.Position.{Position, other, has_room, has_line, is_full, end_of, empty_count, after_move, side_to_move, open_columns, moved}
use Rattle.game_rules.specs.Value.{win_of, same_end, best_of, ended_or, value_within, value, wins}
use Rattle.game_rules.proofs.Lists.{Among, Among-map_gives, any_gives, any_map, all_any, Among-filter_gives}
use Rattle.game_rules.proofs.Moves.{empty_count_moved, other_other}
use Rattle.game_rules.specs.declared.Side.{Side}
use Rattle.game_rules.specs.declared.Side.TheVariants as sides
use Rattle.game_rules.specs.declared.End.{End}
use Rattle.game_rules.specs.declared.End.TheVariants.{White, Black, Draw}

-- where some column has room there is an empty square
pub empty_count_room : (p : Position) (column : ℕ) → has_room p column ≡ true → 0 < empty_count p
empty_count_room p column h = omega (arith, empty_count_moved p column h)

-- two values of moves are alike where the moves' are
map_same : {X Y : Type 0} (f g : X → Y) (xs : List X) → ((x : X) → Among x xs → f x ≡ g x) → map f xs ≡ map g xs
map_same f g [] same = refl
map_same f g (x ∷ xs) same = ap (λ y. y ∷ map f xs) (same x (inl refl)) ∙ ap (λ ys. g x ∷ ys) (map_same f g xs (λ y among. same y (inr among)))

-- a position after a move in one of some columns with room
pub emptied : (p q : Position) (columns : List ℕ) → ((column : ℕ) → Among column columns → has_room p column ≡ true) → Among q (map (after_move p) columns)
    → empty_count q + 1 ≡ empty_count p
emptied p q columns open_ones among =
    let found = Among-map_gives (after_move p) columns q among in
    subst (λ r. empty_count r + 1 ≡ empty_count p) found.2 (empty_count_moved p found.0 (open_ones found.0 found.1))

-- each position after a move has one empty square fewer
pub moved_empty : (p q : Position) → Among q (moved p) → empty_count q + 1 ≡ empty_count p
moved_empty p q among = emptied p q (open_columns p) (λ column h. (Among-filter_gives (has_room p) (below (length p.columns)) column h).1) among

-- no column has room where no square is empty
nothing_open : (p : Position) → empty_count p ≡ 0 → is_full p ≡ true
nothing_open p h = elim (cases_Bool (list_any (has_room p) (below (length p.columns)))) [
  | inl some ↦ let found = any_gives (has_room p) (below (length p.columns)) some in absurd (omega (arith, empty_count_room p found.0 found.2))
  | inr none ↦ rw none refl
]

pub full_ended : (p : Position) → is_full p ≡ true → (e : End) × (end_of p ≡ Some e)
full_ended p full = elim (cases_Bool (has_line p sides.White)) [
  | inl white ↦ (White, rw white refl)
  | inr not_white ↦ elim (cases_Bool (has_line p sides.Black)) [
    | inl black ↦ (Black, rw (not_white, black) refl)
    | inr not_black ↦ (Draw, rw (not_white, not_black, full) refl)
  ]
]

-- while the game goes on, some square is empty
pub goes_on_empty : (p : Position) → end_of p ≡ None → 0 < empty_count p
goes_on_empty p h = elim (cases_zero (empty_count p)) [
  | inl none ↦ let ended = full_ended p (nothing_open p none) in absurd (cc (ended.1, h))
  | inr some ↦ some
]
  where
    cases_zero : (n : ℕ) → (n ≡ 0) ⊎ (0 < n)
    cases_zero zero = inl refl
    cases_zero (suc n) = inr (omega arith)

-- while the game goes on, some column has room
pub goes_on_room : (p : Position) → end_of p ≡ None → list_any (has_room p) (below (length p.columns)) ≡ true
goes_on_room p h = true_from_ne_false (list_any (has_room p) (below (length p.columns)))
    (λ none. let full : is_full p ≡ true = rw none refl in let ended = full_ended p full in absurd (cc (ended.1, h)))

-- enough moves are as good as more
enough : (n m : ℕ) (p : Position) → empty_count p ≤ n → empty_count p ≤ m → value_within n p ≡ value_within m p
unfolding value_within
enough zero zero p left right = refl
enough zero (suc m) p left right = let ended = full_ended p (nothing_open p (omega arith)) in rw ended.1 refl
enough (suc n) zero p left right = let ended = full_ended p (nothing_open p (omega arith)) in rw ended.1 refl
enough (suc n) (suc m) p left right =
    ap (λ found. ended_or (end_of p) (best_of (side_to_move p) found))
    (map_same (value_within n) (value_within m) (moved p) (λ q among. let one : empty_count q + 1 ≡ empty_count p = moved_empty p q among in
    enough n m q (omega arith) (omega arith)))

pub value_at_end : (p : Position) (e : End) → end_of p ≡ Some e → value p ≡ e
unfolding value value_within
value_at_end p e h = at_end (empty_count p)
  where
    at_end : (n : ℕ) → value_within n p ≡ e
    at_end zero = rw h refl
    at_end (suc n) = rw h refl

-- where the game goes on, the value is the best of those after each move
pub value_step : (p : Position) → end_of p ≡ None → value p ≡ best_of (side_to_move p) (map value (moved p))
unfolding value value_within
value_step p h = step (empty_count p) refl (goes_on_empty p h)
  where
    step : (n : ℕ) → n ≡ empty_count p → 0 < n → value_within n p ≡ best_of (side_to_move p) (map value (moved p))
    step zero e low = absurd (omega arith)
    step (suc n) e low = rw h (ap (best_of (side_to_move p))
        (map_same (value_within n) value (moved p) (λ q among. let one : empty_count q + 1 ≡ empty_count p = moved_empty p q among in
        enough n (empty_count q) q (omega arith) (omega arith))))

-- ---- who wins

-- the side to move wins where one of the ends is its win
best_own : (side : Side) (found : List End) → same_end (win_of side) (best_of side found) ≡ list_any (same_end (win_of side)) found
best_own side found = elim (cases_Bool (list_any (same_end (win_of side)) found)) [
  | inl own ↦ rw own (own_win side)
  | inr none ↦ rw none (lost side (list_any (same_end Draw) found))
]
  where
    own_win : (side : Side) → same_end (win_of side) (win_of side) ≡ true
    own_win sides.White = refl
    own_win sides.Black = refl

    lost : (side : Side) (drawn : Bool) → same_end (win_of side) (cond drawn Draw (win_of (other side))) ≡ false
    lost sides.White true = refl
    lost sides.White false = refl
    lost sides.Black true = refl
    lost sides.Black false = refl

-- the other side wins where all of them are its win: none is the win of the side to move, and none a draw
best_other : (side : Side) (found : List End) → same_end (win_of (other side)) (best_of side found) ≡ list_all (same_end (win_of (other side))) found
best_other side found =
    told side (list_any (same_end (win_of side)) found) (list_any (same_end Draw) found)
    ∙ ap not (sym (any_apart found)) ∙ sym (all_any (same_end (win_of (other side))) found)
  where
    told : (side : Side) (own drawn : Bool) → same_end (win_of (other side)) (cond own (win_of side) (cond drawn Draw (win_of (other side))))
        ≡ not (own || drawn)
    told sides.White true drawn = refl
    told sides.White false true = refl
    told sides.White false false = refl
    told sides.Black true drawn = refl
    told sides.Black false true = refl
    told sides.Black false false = refl

    apart : (side : Side) (e : End) → not (same_end (win_of (other side)) e) ≡ (same_end (win_of side) e || same_end Draw e)
    apart sides.White White = refl
    apart sides.White Black = refl
    apart sides.White Draw = refl
    apart sides.Black White = refl
    apart sides.Black Black = refl
    apart sides.Black Draw = refl

    turned : (a b c d : Bool) → ((a || b) || (c || d)) ≡ ((a || c) || (b || d))
    turned true b c d = refl
    turned false true true d = refl
    turned false true false d = refl
    turned false false c d = refl

    any_apart : (es : List End) → list_any (λ e. not (same_end (win_of (other side)) e)) es
        ≡ (list_any (same_end (win_of side)) es || list_any (same_end Draw) es)
    any_apart [] = refl
    any_apart (e ∷ es) = ap (λ b. b || list_any (λ e. not (same_end (win_of (other side)) e)) es) (apart side e)
        ∙ ap (λ b. (same_end (win_of side) e || same_end Draw e) || b) (any_apart es)
        ∙ turned (same_end (win_of side) e) (same_end Draw e) (list_any (same_end (win_of side)) es) (list_any (same_end Draw) es)

-- the side to move wins where it wins after some move
pub wins_own : (side : Side) (p : Position) → end_of p ≡ None → side_to_move p ≡ side → wins side p ≡ list_any (wins side) (moved p)
wins_own side p h own =
    ap (same_end (win_of side)) (value_step p h ∙ ap (λ s. best_of s (map value (moved p))) own)
    ∙ best_own side (map value (moved p)) ∙ any_map (same_end (win_of side)) value (moved p)

-- the other side wins where it wins after every move
pub wins_other : (side : Side) (p : Position) → end_of p ≡ None → side_to_move p ≡ other side → wins side p ≡ list_all (wins side) (moved p)
wins_other side p h turn =
    ap (same_end (win_of side)) (value_step p h ∙ ap (λ s. best_of s (map value (moved p))) turn)
    ∙ ap (λ s. same_end (win_of s) (best_of (other side) (map value (moved p)))) (sym (other_other side))
    ∙ best_other (other side) (map value (moved p))
    ∙ ap (λ s. list_all (same_end (win_of s)) (map value (moved p))) (other_other side)
    ∙ all_map (same_end (win_of side)) value (moved p)
  where
    all_map : {X Y : Type 0} (q : Y → Bool) (f : X → Y) (xs : List X) → list_all q (map f xs) ≡ list_all (λ x. q (f x)) xs
    all_map q f [] = refl
    all_map q f (x ∷ xs) = ap (λ b. q (f x) && b) (all_map q f xs)

-- at most one side wins
pub wins_once : (p : Position) → wins sides.White p ≡ true → wins sides.Black p ≡ true → ⊥
wins_once p white black = once (value p) white black
  where
    once : (e : End) → same_end White e ≡ true → same_end Black e ≡ true → ⊥
    once White white black = cc
    once Black white black = cc
    once Draw white black = cc

-- who wins determines the value
pub value_known : (p : Position) (e : End) → value p ≡ e → same_end (value p) e ≡ true
value_known p e h = rw h (same e)
  where
    same : (e : End) → same_end e e ≡ true
    same White = refl
    same Black = refl
    same Draw = refl
