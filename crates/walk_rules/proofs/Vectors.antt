-- The walk and the choice, computed at positions whose answers are known from outside.
use Rattle.std.proofs.Common.{◌≡◌, ℕ, List, [], ◌∷◌, ◌++◌, map, length, take, Option, Some, refl}
use Rattle.std.specs.Option.{option_map}
use Rattle.game_rules.specs.Board.{Square}
use Rattle.game_rules.specs.Position.{Position, empty_position, played}
use Rattle.game_rules.specs.Squares.{squares_of_board}
use Rattle.game_rules.specs.Groups.{Group, groups_of}
use Rattle.game_rules.specs.declared.Length.TheVariants.{Four}
use Rattle.game_rules.specs.declared.Way.{Way}
use Rattle.game_rules.specs.declared.Way.TheVariants.{H, U, D}
use Rattle.game_rules.proofs.Samples.{after_moves}
use Rattle.plan_rules.proofs.Samples.{group_of_four, columns_a_b, six_zones, even_moves, narrow_moves}
use Rattle.plan_rules.specs.Rules.{RuleInstance, claimeven, baseinverse, lowinverse, highinverse, baseclaim, vertical, aftereven, before, specialbefore}
use Rattle.walk_rules.specs.Walk.{walk_within, walk_from, walk, Chosen, gave, no_plan, spent, choice_of}

abbrev chosen : ℕ → ℕ → List ℕ → ℕ → Option Chosen
chosen cols rows moves k = after_moves (λ p. choice_of p k) cols rows moves

-- the Claimevens of columns, on some odd rows of each
abbrev claimevens : List ℕ → List ℕ → List RuleInstance
claimevens [] rows = []
claimevens (column ∷ columns) rows = map (λ row. claimeven (column, row)) rows ++ claimevens columns rows

-- ---- the empty board of 4 columns and 4 rows

eight : List RuleInstance
eight = claimevens (0 ∷ 1 ∷ 2 ∷ 3 ∷ []) (1 ∷ 3 ∷ [])

walk_length : after_moves (λ p. length (walk p)) 4 4 [] ≡ Some 77
unfolding squares_of_board groups_of walk_within walk_from
walk_length = refl

first_sets : after_moves (λ p. take 11 (walk p)) 4 4 [] ≡ Some (
    map (λ k. take k eight) (0 ∷ 1 ∷ 2 ∷ 3 ∷ 4 ∷ 5 ∷ 6 ∷ 7 ∷ 8 ∷ [])
    ++ (columns_a_b ++ baseinverse (2, 1) (3, 1) ∷ [])
    ∷ six_zones
    ∷ [])
unfolding squares_of_board groups_of walk_within walk_from eight
first_sets = refl

gives_at_11 : chosen 4 4 [] 11 ≡ Some (gave six_zones)
unfolding squares_of_board groups_of walk_within walk_from
gives_at_11 = refl

spent_at_10 : chosen 4 4 [] 10 ≡ Some spent
unfolding squares_of_board groups_of walk_within walk_from
spent_at_10 = refl

spent_at_0 : chosen 4 4 [] 0 ≡ Some spent
unfolding squares_of_board groups_of walk_within walk_from
spent_at_0 = refl

-- ---- the empty board of 6 columns and 6 rows

gives_at_154 : chosen 6 6 [] 154 ≡ Some (gave (
    claimevens (0 ∷ 1 ∷ []) (1 ∷ 3 ∷ 5 ∷ []) ++ baseinverse (2, 1) (3, 1) ∷ lowinverse (2, 2) (2, 6) (3, 2) (3, 6) ∷ claimevens (4 ∷ 5 ∷ []) (1 ∷ 3 ∷ 5 ∷ [])))
unfolding squares_of_board groups_of walk_within walk_from
gives_at_154 = refl

spent_at_153 : chosen 6 6 [] 153 ≡ Some spent
unfolding squares_of_board groups_of walk_within walk_from
spent_at_153 = refl

-- ---- standing instances

-- with a Vertical
with_vertical : chosen 4 6 narrow_moves 11
    ≡ Some (gave (claimevens (0 ∷ 1 ∷ []) (1 ∷ 3 ∷ 5 ∷ []) ++ lowinverse (2, 4) (2, 6) (3, 4) (3, 6) ∷ vertical (2, 4) ∷ []))
unfolding squares_of_board groups_of walk_within walk_from
with_vertical = refl

vertical_spent : chosen 4 6 narrow_moves 10 ≡ Some spent
unfolding squares_of_board groups_of walk_within walk_from
vertical_spent = refl

-- with an Aftereven
with_aftereven : chosen 4 4 even_moves 6 ≡ Some (gave (columns_a_b ++ claimeven (3, 3) ∷ aftereven (group_of_four (0, 2) H) ∷ []))
unfolding squares_of_board groups_of walk_within walk_from
with_aftereven = refl

aftereven_spent : chosen 4 4 even_moves 5 ≡ Some spent
unfolding squares_of_board groups_of walk_within walk_from
aftereven_spent = refl

-- with a Vertical and two Befores, in the order of the groups that they answer
with_befores : chosen 5 6 (0 ∷ 2 ∷ 2 ∷ 2 ∷ 2 ∷ 2 ∷ 2 ∷ 1 ∷ 0 ∷ 1 ∷ 1 ∷ 1 ∷ 1 ∷ 1 ∷ 4 ∷ 3 ∷ 0 ∷ 4 ∷ 3 ∷ 0 ∷ 3 ∷ 4 ∷ []) 100
    ≡ Some (gave (claimeven (0, 5) ∷ lowinverse (3, 4) (3, 6) (4, 4) (4, 6) ∷ vertical (3, 4) ∷ before (group_of_four (1, 6) D)
    ∷ before (group_of_four (1, 2) U) ∷ []))
unfolding squares_of_board groups_of walk_within walk_from
with_befores = refl

-- one Aftereven answers two groups, and is listed once
listed_once : chosen 5 6 (0 ∷ 2 ∷ 2 ∷ 2 ∷ 2 ∷ 2 ∷ 0 ∷ 2 ∷ 0 ∷ 0 ∷ 0 ∷ 0 ∷ 4 ∷ 4 ∷ 1 ∷ 4 ∷ 1 ∷ 4 ∷ 1 ∷ 1 ∷ 4 ∷ 3 ∷ 1 ∷ 3 ∷ 4 ∷ 1 ∷ []) 3
    ≡ Some (gave (claimeven (3, 3) ∷ claimeven (3, 5) ∷ aftereven (group_of_four (1, 6) D) ∷ []))
unfolding squares_of_board groups_of walk_within walk_from
listed_once = refl

-- with a Specialbefore
with_specialbefore : chosen 4 6 (1 ∷ 0 ∷ 2 ∷ 3 ∷ []) 19
    ≡ Some (gave (
    baseinverse (0, 2) (1, 2) ∷ claimevens (0 ∷ 1 ∷ []) (3 ∷ 5 ∷ []) ++ lowinverse (2, 2) (2, 6) (3, 2) (3, 6)
    ∷ specialbefore (group_of_four (0, 1) U) (0, 2) (1, 2) ∷ []))
unfolding squares_of_board groups_of walk_within walk_from
with_specialbefore = refl

-- ---- the other zone rules

with_highinverse : chosen 4 4 (0 ∷ 1 ∷ 2 ∷ 3 ∷ []) 19
    ≡ Some (gave (baseinverse (0, 2) (2, 2) ∷ claimeven (0, 3) ∷ highinverse (1, 2) (3, 2) ∷ claimeven (2, 3) ∷ []))
unfolding squares_of_board groups_of walk_within walk_from
with_highinverse = refl

with_baseclaim : chosen 5 4 (3 ∷ 1 ∷ 0 ∷ 2 ∷ 0 ∷ 2 ∷ 3 ∷ 0 ∷ 4 ∷ 3 ∷ []) 12
    ≡ Some (gave (baseinverse (0, 4) (1, 2) ∷ claimeven (1, 3) ∷ baseclaim (4, 2) (2, 3) (3, 4) ∷ claimeven (4, 3) ∷ []))
unfolding squares_of_board groups_of walk_within walk_from
with_baseclaim = refl

-- ---- no plan

-- Black to move
black_to_move : chosen 4 4 (0 ∷ []) 100 ≡ Some no_plan
unfolding squares_of_board groups_of walk_within walk_from
black_to_move = refl

-- White has a line of four, and Black would be to move; then Black has one, and White would be to move
white_has_won : chosen 4 4 (0 ∷ 1 ∷ 0 ∷ 1 ∷ 0 ∷ 1 ∷ 0 ∷ []) 100 ≡ Some no_plan
unfolding squares_of_board groups_of walk_within walk_from
white_has_won = refl

black_has_won : chosen 4 4 (0 ∷ 1 ∷ 0 ∷ 1 ∷ 0 ∷ 1 ∷ 2 ∷ 1 ∷ []) 100 ≡ Some no_plan
unfolding squares_of_board groups_of walk_within walk_from
black_has_won = refl

ended_at_0 : chosen 4 4 (0 ∷ 1 ∷ 0 ∷ 1 ∷ 0 ∷ 1 ∷ 2 ∷ 1 ∷ []) 0 ≡ Some no_plan
unfolding squares_of_board groups_of walk_within walk_from
ended_at_0 = refl
