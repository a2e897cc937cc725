use Rattle.plan_rules.proofs.Table.{zones_apart}
use Rattle.plan_rules.proofs.Theorems.{together_orders}
use Rattle.plan_rules.proofs.laws.instances_that_stand_together.Goals as goal

pub returns-clause-orders : goal.returns-clause-orders
returns-clause-orders c = together_orders

pub returns-clause-apart : goal.returns-clause-apart
returns-clause-apart c = zones_apart
