use Rattle.plan_rules.proofs.Theorems.{plan_kept}
use Rattle.plan_rules.proofs.laws.a_plan_is_kept_whatever_white_plays.Goals as goal

pub returns : goal.returns
returns c = plan_kept
