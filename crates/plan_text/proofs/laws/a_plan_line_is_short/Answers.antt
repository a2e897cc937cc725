use Rattle.plan_text.proofs.Instances.{instance_plain, instance_short}
use Rattle.plan_text.proofs.PlanLines.{plan_length, plan_bytes}
use Rattle.plan_text.proofs.laws.a_plan_line_is_short.Goals as goal

pub returns-clause-instance : goal.returns-clause-instance
returns-clause-instance c = instance_short

pub returns-clause-bytes : goal.returns-clause-bytes
returns-clause-bytes c = instance_plain

pub returns-clause-line : goal.returns-clause-line
returns-clause-line c = plan_length

pub returns-clause-feed : goal.returns-clause-feed
returns-clause-feed c = plan_bytes
