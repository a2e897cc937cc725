use Rattle.plan_rules.proofs.Theorems.{plan_wins, plan_value}
use Rattle.plan_rules.proofs.laws.a_plan_stops_white.Goals as goal

pub returns-clause-wins : goal.returns-clause-wins
returns-clause-wins c = plan_wins

pub returns-clause-value : goal.returns-clause-value
returns-clause-value c = plan_value
