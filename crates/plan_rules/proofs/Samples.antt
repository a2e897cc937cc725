-- Groups, moves and lists of examples.
use Rattle.std.proofs.Common.{ℕ, List, [], ◌∷◌, ◌++◌}
use Rattle.game_rules.specs.Board.{Square}
use Rattle.game_rules.specs.Groups.{Group}
use Rattle.game_rules.specs.declared.Length.TheVariants.{Four}
use Rattle.game_rules.specs.declared.Way.{Way}
use Rattle.plan_rules.specs.Rules.{RuleInstance, claimeven, baseinverse, lowinverse}

abbrev pub group_of_four : Square → Way → Group
group_of_four anchor way = record { anchor = anchor; way = way; len = Four }

-- ---- on the board of 4 columns and 4 rows

abbrev pub columns_a_b : List RuleInstance
columns_a_b = claimeven (0, 1) ∷ claimeven (0, 3) ∷ claimeven (1, 1) ∷ claimeven (1, 3) ∷ []

-- six zones that are a plan on the empty board
abbrev pub six_zones : List RuleInstance
six_zones = columns_a_b ++ baseinverse (2, 1) (3, 1) ∷ lowinverse (2, 2) (2, 4) (3, 2) (3, 4) ∷ []

-- two Baseinverses side by side and two Lowinverses across them cover the board, and aren't a plan
abbrev pub crossed : List RuleInstance
crossed = baseinverse (0, 1) (2, 1) ∷ baseinverse (1, 1) (3, 1) ∷ lowinverse (0, 2) (0, 4) (1, 2) (1, 4) ∷ lowinverse (2, 2) (2, 4) (3, 2) (3, 4) ∷ []

abbrev pub only_claimevens : List RuleInstance
only_claimevens = columns_a_b ++ claimeven (2, 1) ∷ claimeven (2, 3) ∷ claimeven (3, 1) ∷ claimeven (3, 3) ∷ []

-- moves after which an Aftereven of the second row fits
abbrev pub even_moves : List ℕ
even_moves = 2 ∷ 2 ∷ 2 ∷ 3 ∷ 2 ∷ 3 ∷ []

-- moves after which a Baseclaim fits
abbrev pub six_men : List ℕ
six_men = 3 ∷ 0 ∷ 3 ∷ 3 ∷ 2 ∷ 3 ∷ []

-- ---- on other boards

-- on the board of 4 columns and 6 rows: moves after which a Vertical fits
abbrev pub narrow_moves : List ℕ
narrow_moves = 3 ∷ 2 ∷ 2 ∷ 3 ∷ 2 ∷ 3 ∷ []

-- on the board of 5 columns and 4 rows: few squares are left
abbrev pub few_left : List ℕ
few_left = 0 ∷ 1 ∷ 1 ∷ 0 ∷ 0 ∷ 1 ∷ 1 ∷ 0 ∷ 3 ∷ 3 ∷ 2 ∷ 4 ∷ 4 ∷ 3 ∷ 4 ∷ 4 ∷ []
