use Rattle.plan_text.proofs.PlanLines.{plan_read, plan_spelled, one_plan}
use Rattle.plan_text.proofs.laws.a_plan_line_that_is_read_is_in_the_grammar.Goals as goal

pub returns-clause-reads : goal.returns-clause-reads
returns-clause-reads c = λ board bytes ws. (plan_read board bytes ws, plan_spelled board bytes ws)

pub returns-clause-once : goal.returns-clause-once
returns-clause-once c = one_plan
