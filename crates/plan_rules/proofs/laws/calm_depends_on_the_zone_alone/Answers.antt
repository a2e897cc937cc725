use Rattle.plan_rules.proofs.AllRules.{lawful}
use Rattle.plan_rules.proofs.laws.calm_depends_on_the_zone_alone.Goals as goal

pub returns : goal.returns
returns c = λ w. (lawful w).is_local
