-- Why a list is no plan, and which member answers a line, computed at positions whose answers are known from outside.
use Rattle.std.proofs.Common.{◌≡◌, ℕ, List, [], ◌∷◌, ◌++◌, Option, Some, None, refl}
use Rattle.game_rules.specs.Squares.{squares_of_board}
use Rattle.game_rules.specs.Groups.{Group, groups_of}
use Rattle.game_rules.specs.declared.Way.TheVariants.{H, V}
use Rattle.game_rules.proofs.Samples.{after_moves}
use Rattle.plan_rules.proofs.Samples.{group_of_four, columns_a_b, six_zones, crossed, only_claimevens}
use Rattle.plan_rules.specs.Rules.{RuleInstance, claimeven, baseinverse, lowinverse, highinverse, aftereven, before}
use Rattle.plan_rules.specs.Refusal.{PlanFault, not_white_to_move, ended, misfit, clash, uncovered, unsupported, unanswered, plan_refusal, answering}

-- why a list is no plan after some moves on the board of 4 columns and 4 rows
abbrev refused : List ℕ → List RuleInstance → Option (Option PlanFault)
refused moves ws = after_moves (λ p. plan_refusal p ws) 4 4 moves

no_refusal : refused [] six_zones ≡ Some None
unfolding squares_of_board groups_of
no_refusal = refl

supported_before : refused [] (six_zones ++ before (group_of_four (0, 2) H) ∷ []) ≡ Some None
unfolding squares_of_board groups_of
supported_before = refl

-- ---- the side to move and the end, whatever the list

black_to_move : refused (0 ∷ []) [] ≡ Some (Some not_white_to_move)
unfolding squares_of_board groups_of
black_to_move = refl

-- Black has four in column b
won_already : refused (0 ∷ 1 ∷ 0 ∷ 1 ∷ 2 ∷ 1 ∷ 3 ∷ 1 ∷ []) (claimeven (0, 2) ∷ []) ≡ Some (Some ended)
unfolding squares_of_board groups_of
won_already = refl

-- ---- members

-- the second and the third don't fit, and the first and the fourth clash
first_misfit : refused [] (claimeven (0, 1) ∷ claimeven (0, 2) ∷ claimeven (1, 2) ∷ claimeven (0, 1) ∷ []) ≡ Some (Some (misfit 2))
unfolding squares_of_board groups_of
first_misfit = refl

-- all squares are covered
crossed_zones : refused [] crossed ≡ Some (Some (clash 1 3))
unfolding squares_of_board groups_of
crossed_zones = refl

shared_square : refused [] (claimeven (0, 1) ∷ highinverse (0, 2) (1, 2) ∷ []) ≡ Some (Some (clash 1 2))
unfolding squares_of_board groups_of
shared_square = refl

-- the second and the third clash too
least_first_member : refused [] (claimeven (0, 1) ∷ claimeven (1, 1) ∷ baseinverse (1, 1) (2, 1) ∷ baseinverse (0, 1) (3, 1) ∷ []) ≡ Some (Some (clash 1 4))
unfolding squares_of_board groups_of
least_first_member = refl

-- the second and the fourth clash too
least_second_member : refused [] (claimeven (0, 1) ∷ claimeven (1, 1) ∷ baseinverse (0, 1) (2, 1) ∷ baseinverse (0, 1) (1, 1) ∷ []) ≡ Some (Some (clash 1 3))
unfolding squares_of_board groups_of
least_second_member = refl

-- ---- squares, supports and lines

without_lowinverse : refused [] (columns_a_b ++ baseinverse (2, 1) (3, 1) ∷ []) ≡ Some (Some (uncovered (2, 2)))
unfolding squares_of_board groups_of
without_lowinverse = refl

without_baseinverse : refused [] (columns_a_b ++ lowinverse (2, 2) (2, 4) (3, 2) (3, 4) ∷ []) ≡ Some (Some (uncovered (2, 1)))
unfolding squares_of_board groups_of
without_baseinverse = refl

-- c2 isn't the upper square of a Claimeven
unsupported_aftereven : refused [] (six_zones ++ aftereven (group_of_four (0, 2) H) ∷ []) ≡ Some (Some (unsupported 7))
unfolding squares_of_board groups_of
unsupported_aftereven = refl

no_baseinverse : refused [] only_claimevens ≡ Some (Some (unanswered (group_of_four (0, 1) H)))
unfolding squares_of_board groups_of
no_baseinverse = refl

-- ---- the member that answers a line

abbrev answered_by : List ℕ → Group → Option (Option ℕ)
answered_by moves g = after_moves (λ p. answering p six_zones g) 4 4 moves

lowest_row : answered_by [] (group_of_four (0, 1) H) ≡ Some (Some 5)
lowest_row = refl

-- the third member bars it too
second_row : answered_by [] (group_of_four (0, 2) H) ≡ Some (Some 1)
second_row = refl

column_c : answered_by [] (group_of_four (2, 1) V) ≡ Some (Some 6)
column_c = refl

has_black_man : answered_by (0 ∷ 1 ∷ []) (group_of_four (0, 1) H) ≡ Some None
has_black_man = refl
