use Rattle.plan_rules.proofs.AllRules.{lawful}
use Rattle.plan_rules.proofs.laws.an_instance_keeps_what_it_promises.Goals as goal

pub returns : goal.returns
returns c = λ w. (lawful w).keeps
