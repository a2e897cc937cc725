use Rattle.game_rules.proofs.Squares.{set_where, one_set}
use Rattle.game_rules.proofs.board_laws.a_set_is_determined_by_its_squares.Goals as goal

pub returns-clause-some : goal.returns-clause-some
returns-clause-some c = set_where

pub returns-clause-one : goal.returns-clause-one
returns-clause-one c = one_set
