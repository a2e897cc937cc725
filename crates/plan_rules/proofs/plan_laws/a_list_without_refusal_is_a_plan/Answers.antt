use Rattle.plan_rules.proofs.Refusals.{refusal_is}
use Rattle.plan_rules.proofs.plan_laws.a_list_without_refusal_is_a_plan.Goals as goal

pub returns : goal.returns
returns c = refusal_is
