use Rattle.game_rules.proofs.Ends.{drops}
use Rattle.game_rules.proofs.laws.a_move_drops_one_man.Goals as goal

pub returns : goal.returns
returns c = drops
