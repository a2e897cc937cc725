use Rattle.game_rules.proofs.Moves.{empty_count_moved}
use Rattle.game_rules.proofs.Values.{goes_on_empty}
use Rattle.game_rules.proofs.laws.a_move_fills_one_square.Goals as goal

pub returns-clause-fills : goal.returns-clause-fills
returns-clause-fills c = empty_count_moved

pub returns-clause-going : goal.returns-clause-going
returns-clause-going c = goes_on_empty
