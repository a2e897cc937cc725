-- The squares that Black never gets as a set, and the first group that is not answered among those without a White man.
use Rattle.std.proofs.Common.{◌≡◌, ℕ, ◌+◌, ◌%◌, ◌<◌, ◌≤◌, Bool, true, false, not, ◌&&◌, ◌||◌, ◌==◌, nat_lt, nat_le, cond, List, [], ◌∷◌, filter, take}
use Rattle.std.proofs.Common.{get_or, length, Some}
use Rattle.std.proofs.Common.{refl, sym, ap, ◌∙◌, inl, inr, arith}
use Rattle.std.specs.List.{list_all, list_any, find}
use Rattle.std.proofs.lemmas.Bool.{cases_Bool, cases_eq, cases_lt, eq-eqb, ne_eqb, lt-ltb, le-ltb, le-leb, lt-leb}
use Rattle.std.proofs.lemmas.List.{take_all}
use Rattle.std.proofs.lemmas.List.Folds.{list_any_more}
use Rattle.game_rules.specs.Board.{Square, is_board, on_board}
use Rattle.game_rules.specs.Position.{Position, board_of, has_man}
use Rattle.game_rules.specs.Squares.{same_square, has_square, is_empty, widest, IsSetOf}
use Rattle.game_rules.specs.Groups.{Group, squares_of, lies_on, groups_of, groups_where, is_free_for}
use Rattle.game_rules.specs.declared.Side.TheVariants.{White, Black}
use Rattle.game_rules.proofs.Lists.{Among, all_gives, all_from, any_same}
use Rattle.game_rules.proofs.Groups.{Among-groups_gives}
use Rattle.game_rules.proofs.Ends.{on_board_parts}
use Rattle.game_rules.proofs.Narrowed.{on_widest}
use Rattle.game_rules.proofs.Squares.{agree, has_gives, has_from, any_in_same, set_same}
use Rattle.plan_rules.specs.Squares.{is_even, is_odd}
use Rattle.plan_rules.proofs.Turns.{empty_parts}
use Rattle.odd_rules.specs.Threat.{Pair, is_of_pair, is_safe, holds_pair, is_answered}
use Rattle.odd_rules.proofs.Pairs.{odd_gives}

-- ---- White's men on all of a line but one square

pub white_but : (p : Position) (t : Square) (us line white all : List Square) → IsSetOf (has_square us) line → IsSetOf (has_man p White) white
    → IsSetOf (λ u. same_square u t || has_square white u) all
    → list_all (has_square all) line ≡ list_all (λ u. same_square u t || has_man p White u) us
white_but p t us line white all squares men with_t = agree _ _
    (λ h. all_from (λ u. same_square u t || has_man p White u) us (λ u among.
    sym (same u) ∙ all_gives (has_square all) line u h (has_gives line u (squares.has u ∙ has_from us u among))))
    (λ h. all_from (has_square all) line (λ u among.
    same u ∙ all_gives (λ u. same_square u t || has_man p White u) us u h (has_gives us u (sym (squares.has u) ∙ has_from line u among))))
  where
    same : (u : Square) → has_square all u ≡ (same_square u t || has_man p White u)
    same u = with_t.has u ∙ ap (λ b. same_square u t || b) (men.has u)

-- ---- the squares of pairs

pub pair_joins : (pairs : List Pair) (i : ℕ) (x : Pair) (s t : Square) (us vs all : List Square) → i < length pairs → x ≡ get_or pairs i x → s ≡ x.0 → t ≡ x.1
    → IsSetOf (λ u. list_any (is_of_pair u) (take i pairs)) us → IsSetOf (λ u. same_square u t || has_square us u) vs
    → IsSetOf (λ u. same_square u s || has_square vs u) all → IsSetOf (λ u. list_any (is_of_pair u) (take (i + 1) pairs)) all
pair_joins pairs i x s t us vs all within at left right before second first = set_same _ _ all first (λ u.
    ap (λ v. same_square u v || has_square vs u) left
    ∙ ap (λ b. same_square u x.0 || b) (second.has u ∙ ap (λ v. same_square u v || has_square us u) right ∙ ap (λ b. same_square u x.1 || b) (before.has u))
    ∙ turned (same_square u x.0) (same_square u x.1) (list_any (is_of_pair u) (take i pairs))
    ∙ ap (λ b. list_any (is_of_pair u) (take i pairs) || b) (ap (is_of_pair u) at)
    ∙ sym (list_any_more (is_of_pair u) pairs i x within))
  where
    turned : (a b c : Bool) → (a || (b || c)) ≡ (c || (a || b))
    turned a b true = all_true a b
      where
        all_true : (a b : Bool) → (a || (b || true)) ≡ true
        all_true true b = refl
        all_true false true = refl
        all_true false false = refl
    turned true b false = refl
    turned false true false = refl
    turned false false false = refl

pub pairs_joined : (pairs : List Pair) (i : ℕ) (us : List Square) → length pairs ≤ i → IsSetOf (λ u. list_any (is_of_pair u) (take i pairs)) us
    → IsSetOf (λ u. list_any (is_of_pair u) pairs) us
pairs_joined pairs i us past set = set_same _ _ us set (λ u. ap (list_any (is_of_pair u)) (take_all i pairs past))

-- ---- the safe squares

-- empty, and either in the column with one of two more, or outside it with none of two others
either_part : (e c o u q : Bool) → ((e && c && (o || u)) || (e && not c && not (o || q))) ≡ (e && cond c (o || u) (not o && not q))
either_part false c o u q = refl
either_part true true true u q = refl
either_part true true false true q = refl
either_part true true false false q = refl
either_part true false true u q = refl
either_part true false false u q = refl

-- in the target's column: from the target up, or above it, is the same beside the odd rows
from_target : (t u : ℕ) → t % 2 ≡ 1 → (is_odd u || nat_le t u) ≡ (is_odd u || nat_lt t u)
from_target t u odd = elim (cases_lt t u) [
  | inl less ↦ ap (λ b. is_odd u || b) (le-leb t u (omega arith) ∙ sym (lt-ltb t u less))
  | inr most ↦ elim (cases_eq t u) [
    | inl same ↦ let is : is_odd u ≡ true = eq-eqb (u % 2) 1 (omega (arith, same, odd)) in rw is refl
    | inr apart ↦ ap (λ b. is_odd u || b) (lt-leb t u (omega arith) ∙ sym (le-ltb t u most))
  ]
]

not_odd : (n : ℕ) → not (is_odd n) ≡ is_even n
not_odd n = elim (cases_eq (n % 2) 1) [
  | inl odd ↦ rw (eq-eqb (n % 2) 1 odd) (sym (ne_eqb (n % 2) 0 (λ even. omega arith)))
  | inr even ↦ rw (ne_eqb (n % 2) 1 even) (sym (eq-eqb (n % 2) 0 (omega arith)))
]

-- the target's column, the odd rows, and the target's column from the target up, on the widest board
abbrev in_column : Square → Square → Bool
in_column t u = on_board widest u && (t.0 == u.0)

abbrev in_odd_row : Square → Bool
in_odd_row u = on_board widest u && is_odd u.1

abbrev is_up : Square → Square → Bool
is_up t u = (u.0 == t.0) && (nat_le t.1 u.1 && nat_le u.1 10)

-- what is cut from the empty squares in the column, and outside it
abbrev is_cut : Position → Square → Square → Bool
is_cut p t u = is_empty p u && in_column t u && (in_odd_row u || is_up t u)

abbrev is_rest : Position → Square → List Pair → Square → Bool
is_rest p t pairs u = is_empty p u && not (in_column t u) && not (in_odd_row u || list_any (is_of_pair u) pairs)

safe_is : (p : Position) (t : Square) (pairs : List Pair) (u : Square) → is_board (board_of p) ≡ true → is_odd t.1 ≡ true
    → (is_cut p t u || is_rest p t pairs u) ≡ is_safe p t pairs u
safe_is p t pairs u board odd =
    either_part (is_empty p u) (in_column t u) (in_odd_row u) (is_up t u) (list_any (is_of_pair u) pairs)
    ∙ elim (cases_Bool (is_empty p u)) [
      | inl empty ↦ ap (λ b. is_empty p u && b) (within (on_widest (board_of p) board u (empty_parts p u empty).0))
      | inr filled ↦ rw filled refl
    ]
  where
    and_true : (b : Bool) → (b && true) ≡ b
    and_true true = refl
    and_true false = refl

    within : on_board widest u ≡ true → cond (in_column t u) (in_odd_row u || is_up t u) (not (in_odd_row u) && not (list_any (is_of_pair u) pairs))
        ≡ cond (u.0 == t.0) (is_odd u.1 || nat_lt t.1 u.1) (is_even u.1 && not (list_any (is_of_pair u) pairs))
    within on = elim (cases_eq u.0 t.0) [
      | inl same ↦
          let high = le-leb u.1 10 (on_board_parts widest u.0 u.1 on).2 in
          rw (on, eq-eqb t.0 u.0 (sym same), eq-eqb u.0 t.0 same, high)
          (ap (λ b. is_odd u.1 || b) (and_true (nat_le t.1 u.1)) ∙ from_target t.1 u.1 (odd_gives t.1 odd))
      | inr apart ↦
          rw (on, ne_eqb t.0 u.0 (λ same. apart (sym same)), ne_eqb u.0 t.0 apart) (ap (λ b. b && not (list_any (is_of_pair u) pairs)) (not_odd u.1))
    ]

-- the empty squares of the column that are cut to the odd rows and those from the target up
pub cut_set : (p : Position) (t : Square) (empties odd_rows column up inner low cut : List Square) → IsSetOf (is_empty p) empties → IsSetOf in_odd_row odd_rows
    → IsSetOf (in_column t) column → IsSetOf (is_up t) up → IsSetOf (λ u. has_square empties u && has_square column u) inner
    → IsSetOf (λ u. has_square odd_rows u || has_square up u) low → IsSetOf (λ u. has_square inner u && has_square low u) cut → IsSetOf (is_cut p t) cut
cut_set p t empties odd_rows column up inner low cut is_empties is_odds is_column ups is_inner is_low is = set_same _ _ cut is (λ u.
    cc (is_inner.has u, is_low.has u, is_empties.has u, is_column.has u, is_odds.has u, ups.has u))

-- those outside it, without the odd rows and the squares of pairs
pub rest_set : (p : Position) (t : Square) (pairs : List Pair) (empties odd_rows column taken outer off rest : List Square) → IsSetOf (is_empty p) empties
    → IsSetOf in_odd_row odd_rows → IsSetOf (in_column t) column → IsSetOf (λ u. list_any (is_of_pair u) pairs) taken
    → IsSetOf (λ u. has_square empties u && not (has_square column u)) outer → IsSetOf (λ u. has_square odd_rows u || has_square taken u) off
    → IsSetOf (λ u. has_square outer u && not (has_square off u)) rest → IsSetOf (is_rest p t pairs) rest
rest_set p t pairs empties odd_rows column taken outer off rest is_empties is_odds is_column is_taken is_outer is_off is = set_same _ _ rest is (λ u.
    cc (is_outer.has u, is_off.has u, is_empties.has u, is_column.has u, is_odds.has u, is_taken.has u))

pub safe_set : (p : Position) (t : Square) (pairs : List Pair) (cut rest all : List Square) → is_board (board_of p) ≡ true → is_odd t.1 ≡ true
    → IsSetOf (is_cut p t) cut → IsSetOf (is_rest p t pairs) rest → IsSetOf (λ u. has_square cut u || has_square rest u) all → IsSetOf (is_safe p t pairs) all
safe_set p t pairs cut rest all board odd cuts rests is = set_same _ _ all is (λ u.
    ap (λ b. b || has_square rest u) (cuts.has u) ∙ ap (λ b. is_cut p t u || b) (rests.has u) ∙ safe_is p t pairs u board odd)

-- ---- the first line that isn't answered

-- a line with no safe square and no whole pair
abbrev pub is_bare : Position → Square → List Pair → Group → Bool
is_bare p t pairs g = not (list_any (is_safe p t pairs) (squares_of g) || list_any (holds_pair g) pairs)

pub covered_is : (pairs : List Pair) (g : Group) (safe squares : List Square) → IsSetOf (has_square (squares_of g)) squares
    → (list_any (has_square safe) squares || list_any (λ x. has_square squares x.0 && has_square squares x.1) pairs)
    ≡ (list_any (has_square safe) (squares_of g) || list_any (holds_pair g) pairs)
covered_is pairs g safe squares line =
    ap (λ b. b || list_any (λ x. has_square squares x.0 && has_square squares x.1) pairs) (any_in_same (has_square safe) squares (squares_of g) line.has)
    ∙ ap (λ b. list_any (has_square safe) (squares_of g) || b)
    (any_same (λ x. has_square squares x.0 && has_square squares x.1) (holds_pair g) pairs (λ x among.
    ap (λ b. b && has_square squares x.1) (line.has x.0) ∙ ap (λ b. has_square (squares_of g) x.0 && b) (line.has x.1)))

pub bare_is : (p : Position) (t : Square) (pairs : List Pair) (g : Group) (safe : List Square) → IsSetOf (is_safe p t pairs) safe
    → not (list_any (has_square safe) (squares_of g) || list_any (holds_pair g) pairs) ≡ is_bare p t pairs g
bare_is p t pairs g safe is_all =
    ap (λ b. not (b || list_any (holds_pair g) pairs)) (any_same (has_square safe) (is_safe p t pairs) (squares_of g) (λ u among. is_all.has u))

-- what passes one test, looked for among those that pass another
find_of_filter : {X : Type 0} (keep test : X → Bool) (xs : List X) → find test (filter keep xs) ≡ find (λ x. keep x && test x) xs
find_of_filter keep test [] = refl
find_of_filter keep test (x ∷ xs) = elim (cases_Bool (keep x)) [
  | inl kept ↦ rw kept (ap (cond (test x) (Some x)) (find_of_filter keep test xs))
  | inr left ↦ rw left (find_of_filter keep test xs)
]

find_agrees : {X : Type 0} (f g : X → Bool) (xs : List X) → ((x : X) → Among x xs → f x ≡ g x) → find f xs ≡ find g xs
find_agrees f g [] same = refl
find_agrees f g (x ∷ xs) same = ap (λ b. cond b (Some x) (find f xs)) (same x (inl refl))
    ∙ ap (cond (g x) (Some x)) (find_agrees f g xs (λ y among. same y (inr among)))

pub first_open : (p : Position) (t : Square) (pairs : List Pair) (gs : List Group)
    → gs ≡ groups_where (board_of p) (λ g. lies_on (board_of p) g && is_free_for Black p g)
    → find (is_bare p t pairs) gs ≡ find (λ g. not (is_answered p t pairs g)) (groups_of (board_of p))
unfolding groups_where
first_open p t pairs gs is =
    ap (find (is_bare p t pairs)) is
    ∙ find_of_filter (λ g. lies_on (board_of p) g && is_free_for Black p g) (is_bare p t pairs) (groups_of (board_of p))
    ∙ find_agrees _ _ (groups_of (board_of p)) (λ g among.
    ap (λ b. b && is_free_for Black p g && is_bare p t pairs g) (Among-groups_gives (board_of p) g among)
    ∙ neither (list_any (has_man p White) (squares_of g)) (list_any (is_safe p t pairs) (squares_of g)) (list_any (holds_pair g) pairs))
  where
    neither : (a b c : Bool) → (not a && not (b || c)) ≡ not (a || b || c)
    neither true b c = refl
    neither false b c = refl
