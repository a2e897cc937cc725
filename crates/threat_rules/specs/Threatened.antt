-- An odd threat as code holds it, and the positions at which White is to answer by it.
use Rattle.std.specs.Prelude.{◌≡◌, ℕ, ◌+◌, true, List, Some}
use Rattle.game_rules.specs.Board.{Square}
use Rattle.game_rules.specs.Position.{Position, height, is_legal, after_move}
use Rattle.game_rules.specs.Groups.{Group}
use Rattle.odd_rules.specs.Threat.{Pair}
use Rattle.odd_rules.specs.Duel.{after_turns}

-- a position, and the group and the list of pairs that are a threat there
pub record Threatened : Type 0 where
  pub at : Position
  pub group : Group
  pub pairs : List Pair

-- the threat that a group and some pairs are at a position
abbrev pub threat_with : Position → Group → List Pair → Threatened
threat_with p g pairs = record { at = p; group = g; pairs = pairs }

-- This position comes from the threat's own by some of Black's moves, each legal at its turn, each with White's answer:
-- Black is to move, or White has just made a line. The threat's own position comes so by no moves.
pub record IsReached (threat : Threatened) (q : Position) : Type 0 where
  pub columns : List ℕ
  pub leads : after_turns threat.pairs threat.at columns ≡ Some q

-- Black has just made a legal move to a square, from a position that is reached
pub record HasMoved (threat : Threatened) (now : Position) (last : Square) : Type 0 where
  pub earlier : Position
  pub reached : IsReached threat earlier
  pub legal : is_legal earlier last.0 ≡ true
  pub row : last.1 ≡ height earlier last.0 + 1
  pub now_is : now ≡ after_move earlier last.0

-- the same, of a group with its pairs
abbrev pub threat_found : Position → Group × List Pair → Threatened
threat_found p found = threat_with p found.0 found.1
