use Rattle.game_rules.proofs.Grammar.{game_along, game_board, game_stacked, game_empty}
use Rattle.game_rules.proofs.text_laws.the_position_of_a_text_is_one_of_moves.Goals as goal

pub returns-clause-moves : goal.returns-clause-moves
returns-clause-moves c = game_along

pub returns-clause-board : goal.returns-clause-board
returns-clause-board c = game_board

pub returns-clause-stacked : goal.returns-clause-stacked
returns-clause-stacked c = game_stacked

pub returns-clause-empty : goal.returns-clause-empty
returns-clause-empty c = game_empty
