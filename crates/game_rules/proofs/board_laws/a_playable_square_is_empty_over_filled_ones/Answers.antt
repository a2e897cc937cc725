use Rattle.game_rules.proofs.Squares.{playable_is}
use Rattle.game_rules.proofs.board_laws.a_playable_square_is_empty_over_filled_ones.Goals as goal

pub returns : goal.returns
returns c = playable_is
