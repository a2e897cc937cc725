use Rattle.game_rules.proofs.Ends.{parity, man_count_along, legal_parts}
use Rattle.game_rules.proofs.Moves.{man_count_moved, side_moved, room_column}
use Rattle.game_rules.proofs.laws.sides_take_turns.Goals as goal

pub returns-clause-parity : goal.returns-clause-parity
returns-clause-parity c = parity

pub returns-clause-more : goal.returns-clause-more
returns-clause-more c = λ p column legal. man_count_moved p column (room_column p column (legal_parts p column legal).1)

pub returns-clause-turns : goal.returns-clause-turns
returns-clause-turns c = λ p column legal. side_moved p column (room_column p column (legal_parts p column legal).1)

pub returns-clause-moves : goal.returns-clause-moves
returns-clause-moves c = man_count_along
