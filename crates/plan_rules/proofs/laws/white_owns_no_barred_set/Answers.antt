use Rattle.plan_rules.proofs.AllRules.{lawful}
use Rattle.plan_rules.proofs.laws.white_owns_no_barred_set.Goals as goal

pub returns : goal.returns
returns c = λ w. (lawful w).bars
