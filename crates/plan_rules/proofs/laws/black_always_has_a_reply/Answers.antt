use Rattle.plan_rules.proofs.Theorems.{plan_answers}
use Rattle.plan_rules.proofs.laws.black_always_has_a_reply.Goals as goal

pub returns : goal.returns
returns c = plan_answers
