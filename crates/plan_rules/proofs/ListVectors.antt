-- The lists of fitting instances, computed at positions whose lists are known from outside.
use Rattle.std.proofs.Common.{◌≡◌, ℕ, List, [], ◌∷◌, map, length, Option, Some, refl}
use Rattle.std.specs.Option.{option_map}
use Rattle.game_rules.specs.Board.{Square}
use Rattle.game_rules.specs.Squares.{squares_of_board}
use Rattle.game_rules.specs.Groups.{groups_of}
use Rattle.game_rules.specs.declared.Way.TheVariants.{H, U}
use Rattle.game_rules.proofs.Samples.{after_moves}
use Rattle.plan_rules.proofs.Samples.{group_of_four, six_men, few_left}
use Rattle.plan_rules.specs.Rules.{RuleInstance, claimeven, baseinverse, lowinverse, highinverse, baseclaim, vertical, aftereven, before, specialbefore}
use Rattle.plan_rules.specs.declared.Kind.{Kind}
use Rattle.plan_rules.specs.declared.Kind.TheVariants as kinds
use Rattle.plan_rules.specs.Listing.{listed}

-- what is listed after some moves on a board with lines of four
abbrev listed_after : ℕ → ℕ → List ℕ → Kind → Option (List RuleInstance)
listed_after cols rows moves kind = after_moves (listed kind) cols rows moves

abbrev count_after : ℕ → ℕ → List ℕ → Kind → Option ℕ
count_after cols rows moves kind = option_map length (listed_after cols rows moves kind)

abbrev pairs_of_columns : (Square → Square → RuleInstance) → ℕ → List RuleInstance
pairs_of_columns rule row = map (λ (two : ℕ × ℕ). rule (two.0, row) (two.1, row)) ((0, 1) ∷ (0, 2) ∷ (0, 3) ∷ (1, 2) ∷ (1, 3) ∷ (2, 3) ∷ [])

-- ---- on the empty board of 4 columns and 4 rows

baseinverses_at_first : listed_after 4 4 [] kinds.Baseinverse ≡ Some (pairs_of_columns baseinverse 1)
unfolding squares_of_board groups_of
baseinverses_at_first = refl

baseclaims_at_first : listed_after 4 4 [] kinds.Baseclaim ≡ Some []
unfolding squares_of_board groups_of
baseclaims_at_first = refl

lowinverses_at_first : listed_after 4 4 [] kinds.Lowinverse ≡ Some (pairs_of_columns (λ x y. lowinverse x (x.0, 4) y (y.0, 4)) 2)
unfolding squares_of_board groups_of
lowinverses_at_first = refl

highinverses_at_first : listed_after 4 4 [] kinds.Highinverse ≡ Some (pairs_of_columns highinverse 2)
unfolding squares_of_board groups_of
highinverses_at_first = refl

verticals_at_first : listed_after 4 4 [] kinds.Vertical ≡ Some (vertical (0, 2) ∷ vertical (1, 2) ∷ vertical (2, 2) ∷ vertical (3, 2) ∷ [])
unfolding squares_of_board groups_of
verticals_at_first = refl

afterevens_at_first : count_after 4 4 [] kinds.Aftereven ≡ Some 10
unfolding squares_of_board groups_of
afterevens_at_first = refl

befores_at_first : listed_after 4 4 [] kinds.Before
    ≡ Some (before (group_of_four (0, 1) H) ∷ before (group_of_four (0, 2) H) ∷ before (group_of_four (0, 3) H) ∷ [])
unfolding squares_of_board groups_of
befores_at_first = refl

specialbefores_at_first : listed_after 4 4 [] kinds.Specialbefore ≡ Some []
unfolding squares_of_board groups_of
specialbefores_at_first = refl

-- ---- with some men

claimevens_beside_a_man : listed_after 4 4 (0 ∷ []) kinds.Claimeven
    ≡ Some (map claimeven ((0, 3) ∷ (1, 1) ∷ (1, 3) ∷ (2, 1) ∷ (2, 3) ∷ (3, 1) ∷ (3, 3) ∷ []))
unfolding squares_of_board groups_of
claimevens_beside_a_man = refl

baseinverses_later : listed_after 4 4 six_men kinds.Baseinverse ≡ Some (baseinverse (0, 2) (1, 1) ∷ baseinverse (0, 2) (2, 2) ∷ baseinverse (1, 1) (2, 2) ∷ [])
unfolding squares_of_board groups_of
baseinverses_later = refl

baseclaims_later : listed_after 4 4 six_men kinds.Baseclaim ≡ Some (baseclaim (0, 2) (1, 1) (2, 2) ∷ baseclaim (2, 2) (1, 1) (0, 2) ∷ [])
unfolding squares_of_board groups_of
baseclaims_later = refl

lowinverses_later : listed_after 4 4 six_men kinds.Lowinverse ≡ Some (lowinverse (0, 2) (0, 4) (2, 2) (2, 4) ∷ [])
unfolding squares_of_board groups_of
lowinverses_later = refl

highinverses_later : listed_after 4 4 six_men kinds.Highinverse ≡ Some (highinverse (0, 2) (2, 2) ∷ [])
unfolding squares_of_board groups_of
highinverses_later = refl

verticals_later : listed_after 4 4 six_men kinds.Vertical ≡ Some (vertical (0, 2) ∷ vertical (1, 2) ∷ vertical (2, 2) ∷ [])
unfolding squares_of_board groups_of
verticals_later = refl

-- ---- few squares left on the board of 5 columns and 4 rows

one_aftereven : listed_after 5 4 few_left kinds.Aftereven ≡ Some (aftereven (group_of_four (1, 1) U) ∷ [])
unfolding squares_of_board groups_of
one_aftereven = refl

one_before : listed_after 5 4 few_left kinds.Before ≡ Some (before (group_of_four (1, 1) U) ∷ [])
unfolding squares_of_board groups_of
one_before = refl

one_specialbefore : listed_after 5 4 few_left kinds.Specialbefore ≡ Some (specialbefore (group_of_four (1, 1) U) (3, 4) (2, 2) ∷ [])
unfolding squares_of_board groups_of
one_specialbefore = refl
