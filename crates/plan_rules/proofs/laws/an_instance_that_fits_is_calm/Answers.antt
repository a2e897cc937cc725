use Rattle.plan_rules.proofs.AllRules.{lawful}
use Rattle.plan_rules.proofs.laws.an_instance_that_fits_is_calm.Goals as goal

pub returns : goal.returns
returns c = λ w. (lawful w).starts
