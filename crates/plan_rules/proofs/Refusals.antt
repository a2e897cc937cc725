-- A list has no refusal exactly where it is a plan.
use Rattle.std.proofs.Common.{◌≡◌, ℕ, ◌+◌, Bool, true, false, not, ◌&&◌, ◌||◌, if◌then◌else◌, List, [], ◌∷◌, filter, Option, Some, None, is_some, is_none, refl}
use Rattle.std.proofs.Common.{ap, ◌∙◌, inl, inr}
use Rattle.std.specs.List.{list_all, list_any, flat_map, find, position_from}
use Rattle.std.specs.Option.{option_map, option_or}
use Rattle.std.proofs.lemmas.Bool.{cases_Bool}
use Rattle.std.proofs.lemmas.List.Concat.{flat_map-cons}
use Rattle.std.proofs.lemmas.List.Folds.{list_all-append, list_all-map}
use Rattle.game_rules.specs.Board.{Board, Square, below, is_line, ways}
use Rattle.game_rules.specs.Position.{Position, board_of, has_man, side_to_move, same_side, end_of}
use Rattle.game_rules.specs.Squares.{is_empty, squares_in_column, squares_of_board}
use Rattle.game_rules.specs.Groups.{Group, squares_of, group_on, groups_along, groups_of}
use Rattle.game_rules.specs.declared.Way.{Way}
use Rattle.game_rules.specs.declared.Side.TheVariants.{White, Black}
use Rattle.game_rules.specs.declared.End.{End}
use Rattle.plan_rules.specs.Rules.{RuleInstance, fits, facts_of, is_supported, together}
use Rattle.plan_rules.specs.Plan.{each_two, every_square, every_line, has_owner, is_barred, is_plan}
use Rattle.plan_rules.specs.Zones.{first_two_from}
use Rattle.plan_rules.specs.Refusal.{not_white_to_move, ended, misfit, clash, uncovered, unsupported, unanswered, is_uncovered, is_unanswered, plan_refusal}

-- ---- what passes of lists that are made of others

-- tests that agree at each element
pub all_same : {X : Type 0} (p q : X → Bool) (xs : List X) → ((x : X) → p x ≡ q x) → list_all p xs ≡ list_all q xs
all_same p q [] same = refl
all_same p q (x ∷ xs) same = ap (λ b. b && list_all p xs) (same x) ∙ ap (λ b. q x && b) (all_same p q xs same)

all_flat_map : {X Y : Type 0} (p : Y → Bool) (f : X → List Y) (xs : List X) → list_all p (flat_map f xs) ≡ list_all (λ x. list_all p (f x)) xs
all_flat_map p f [] = refl
all_flat_map p f (x ∷ xs) = ap (list_all p) (flat_map-cons f x xs) ∙ list_all-append p (f x) (flat_map f xs)
    ∙ ap (λ b. list_all p (f x) && b) (all_flat_map p f xs)

all_filter : {X : Type 0} (p q : X → Bool) (xs : List X) → list_all p (filter q xs) ≡ list_all (λ x. not (q x) || p x) xs
all_filter p q [] = refl
all_filter p q (x ∷ xs) = elim (cases_Bool (q x)) [
  | inl passes ↦ rw passes (ap (λ b. p x && b) (all_filter p q xs))
  | inr fails ↦ rw fails (all_filter p q xs)
]

-- the tests of each square and of each line, over their lists in order
pub squares_all : (b : Board) (test : Square → Bool) → list_all test (squares_of_board b) ≡ every_square b test
unfolding squares_of_board
squares_all b test = all_flat_map test (squares_in_column b.rows) (below b.cols)
    ∙ all_same _ _ (below b.cols) (λ c. list_all-map test (λ i. (c, i + 1)) (below b.rows))

pub lines_all : (b : Board) (test : Group → Bool) → list_all test (groups_of b) ≡ every_line b test
unfolding groups_of
lines_all b test = all_flat_map test (groups_along b) ways ∙ all_same _ _ ways along
  where
    along : (way : Way) → list_all test (groups_along b way) ≡ every_square b (λ anchor. not (is_line b way anchor) || test (group_on b way anchor))
    along way =
        list_all-map test (group_on b way) (filter (is_line b way) (squares_of_board b))
        ∙ all_filter (λ anchor. test (group_on b way anchor)) (is_line b way) (squares_of_board b)
        ∙ squares_all b (λ anchor. not (is_line b way anchor) || test (group_on b way anchor))

-- ---- none that fails

pub no_place : {X : Type 0} (test : X → Bool) (n : ℕ) (xs : List X) → is_none (position_from (λ x. not (test x)) n xs) ≡ list_all test xs
no_place test n [] = refl
no_place test n (x ∷ xs) = elim (cases_Bool (test x)) [
  | inl passes ↦ rw passes (no_place test (n + 1) xs)
  | inr fails ↦ rw fails refl
]

pub no_two : (test : RuleInstance → RuleInstance → Bool) (n : ℕ) (ws : List RuleInstance) → is_none (first_two_from test n ws) ≡ each_two test ws
no_two test n [] = refl
no_two test n (w ∷ ws) = or_none (position_from (λ v. not (test w v)) (n + 1) ws) (first_two_from test (n + 1) ws)
    ∙ cc (no_place (test w) (n + 1) ws, no_two test (n + 1) ws)
  where
    or_none : (i : Option ℕ) (two : Option (ℕ × ℕ)) → is_none (option_or (option_map (λ j. (n, j)) i) two) ≡ (is_none i && is_none two)
    or_none None two = refl
    or_none (Some i) two = refl

pub no_find : {X : Type 0} (test : X → Bool) (xs : List X) → is_none (find test xs) ≡ list_all (λ x. not (test x)) xs
no_find test [] = refl
no_find test (x ∷ xs) = elim (cases_Bool (test x)) [
  | inl passes ↦ rw passes refl
  | inr fails ↦ rw fails (no_find test xs)
]

-- not both, as one or the other
not_and : (a b : Bool) → not (a && not b) ≡ (not a || b)
not_and true true = refl
not_and true false = refl
not_and false b = refl

not_nor : (a b : Bool) → not (not a && not b) ≡ (a || b)
not_nor true b = refl
not_nor false true = refl
not_nor false false = refl

no_square : (p : Position) (ws : List RuleInstance) → is_none (find (is_uncovered p ws) (squares_of_board (board_of p)))
    ≡ every_square (board_of p) (λ u. not (is_empty p u) || has_owner ws u)
no_square p ws =
    no_find (is_uncovered p ws) (squares_of_board (board_of p))
    ∙ all_same _ _ (squares_of_board (board_of p)) (λ u. not_and (is_empty p u) (has_owner ws u))
    ∙ squares_all (board_of p) (λ u. not (is_empty p u) || has_owner ws u)

no_line : (p : Position) (ws : List RuleInstance) → is_none (find (is_unanswered p ws) (groups_of (board_of p)))
    ≡ every_line (board_of p) (λ g. list_any (has_man p Black) (squares_of g) || is_barred p ws g)
no_line p ws =
    no_find (is_unanswered p ws) (groups_of (board_of p))
    ∙ all_same _ _ (groups_of (board_of p)) (λ g. not_nor (list_any (has_man p Black) (squares_of g)) (is_barred p ws g))
    ∙ lines_all (board_of p) (λ g. list_any (has_man p Black) (squares_of g) || is_barred p ws g)

-- ---- the seven together

none_of_seven : (white : Bool) (end : Option End) (i : Option ℕ) (two : Option (ℕ × ℕ)) (u : Option Square) (j : Option ℕ) (g : Option Group)
    → is_none (
    if not white then Some not_white_to_move else (if is_some end then Some ended else
    option_or (option_or (option_map misfit i) (option_map (λ two. clash two.0 two.1) two))
    (option_or (option_map uncovered u) (option_or (option_map unsupported j) (option_map unanswered g)))))
    ≡ (white && is_none end && is_none i && is_none two && is_none u && is_none j && is_none g)
none_of_seven false end i two u j g = refl
none_of_seven true (Some e) i two u j g = refl
none_of_seven true None (Some i) two u j g = refl
none_of_seven true None None (Some two) u j g = refl
none_of_seven true None None None (Some u) j g = refl
none_of_seven true None None None None (Some j) g = refl
none_of_seven true None None None None None (Some g) = refl
none_of_seven true None None None None None None = refl

pub refusal_is : (p : Position) (ws : List RuleInstance) → is_none (plan_refusal p ws) ≡ is_plan p ws
refusal_is p ws =
    let all = none_of_seven (same_side White (side_to_move p)) (end_of p)
    (position_from (λ w. not (fits w p)) 1 ws) (first_two_from together 1 ws)
    (find (is_uncovered p ws) (squares_of_board (board_of p))) (position_from (λ w. not (is_supported w (facts_of p ws))) 1 ws)
    (find (is_unanswered p ws) (groups_of (board_of p))) in
    let fitting = no_place (λ w. fits w p) 1 ws in
    let standing = no_two together 1 ws in
    let supported = no_place (λ w. is_supported w (facts_of p ws)) 1 ws in
    all ∙ cc (fitting, standing, supported, no_square p ws, no_line p ws)
