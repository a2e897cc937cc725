use Rattle.plan_rules.proofs.PlanBounds.{fifty_members, five_twins, plan_set}
use Rattle.plan_rules.proofs.plan_laws.members_that_stand_together_are_few.Goals as goal

pub returns-clause-zones : goal.returns-clause-zones
returns-clause-zones c = fifty_members

pub returns-clause-twins : goal.returns-clause-twins
returns-clause-twins c = five_twins

pub returns-clause-plan : goal.returns-clause-plan
returns-clause-plan c = plan_set
