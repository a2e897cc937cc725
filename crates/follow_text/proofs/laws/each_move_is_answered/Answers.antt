use Rattle.follow_text.proofs.Moves.{answered}
use Rattle.follow_text.proofs.laws.each_move_is_answered.Goals as goal

pub returns : goal.returns
returns c root ls after claim s q column right follows turn legal = answered root ls after claim right s q column follows turn legal
