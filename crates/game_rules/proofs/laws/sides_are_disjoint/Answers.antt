use Rattle.game_rules.proofs.Ends.{disjoint}
use Rattle.game_rules.proofs.laws.sides_are_disjoint.Goals as goal

pub returns : goal.returns
returns c = disjoint
