use Rattle.game_rules.proofs.Moves.{same_position_Decides}
use Rattle.game_rules.proofs.laws.same_position_is_equality.Goals as goal

pub returns : goal.returns
returns c = same_position_Decides
