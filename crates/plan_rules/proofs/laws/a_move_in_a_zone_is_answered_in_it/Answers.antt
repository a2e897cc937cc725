use Rattle.plan_rules.proofs.AllRules.{lawful}
use Rattle.plan_rules.proofs.laws.a_move_in_a_zone_is_answered_in_it.Goals as goal

pub returns : goal.returns
returns c = λ w. (lawful w).steps
