use Rattle.game_rules.proofs.Squares.{man_on_board}
use Rattle.game_rules.proofs.board_laws.men_stand_on_the_board.Goals as goal

pub returns : goal.returns
returns c = man_on_board
