use Rattle.plan_rules.proofs.Theorems.{duel_turns, duel_no_line, plan_value}
use Rattle.rule_compat.specs.Planned.{members}
use Rattle.rule_compat.proofs.strategy.a_plan_keeps_white_from_a_line.Goals as goal

pub returns-clause-turns : goal.returns-clause-turns
returns-clause-turns c = λ columns i column played at. duel_turns c.args.plan.now.at (members c.args.plan.now) columns i column c.at-at.ensures.plan played at

pub returns-clause-none : goal.returns-clause-none
returns-clause-none c = λ columns i q played at line. duel_no_line c.args.plan.now.at (members c.args.plan.now) columns i q c.at-at.ensures.plan played at line

pub returns-clause-value : goal.returns-clause-value
returns-clause-value c = plan_value c.args.plan.now.at (members c.args.plan.now) c.at-at.ensures.plan
