use Rattle.game_rules.proofs.Squares.{has_on_board}
use Rattle.game_rules.proofs.Groups.{squares_ordered}
use Rattle.game_rules.proofs.board_laws.squares_stand_in_square_order.Goals as goal

pub returns-clause-squares : goal.returns-clause-squares
returns-clause-squares c = has_on_board

pub returns-clause-order : goal.returns-clause-order
returns-clause-order c = squares_ordered
