use Rattle.walk_rules.proofs.Walks.{walk_step}
use Rattle.walk_rules.proofs.laws.the_walk_step_by_step.Goals as goal

pub returns : goal.returns
returns c = walk_step
