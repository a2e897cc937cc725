use Rattle.std.proofs.Common.{◌≡◌, true, [], refl, subst}
use Rattle.plan_rules.specs.Plan.{is_plan}
use Rattle.rule_compat.specs.Planned.{members}
use Rattle.rule_compat.proofs.plan.Plan.at.Goals as goal

pub returns-clause-plan : goal.returns-clause-plan
returns-clause-plan c = subst (λ plan. is_plan plan.at (members plan) ≡ true) c.self.view_is c.self.invariant.is_one

pub returns-clause-start : goal.returns-clause-start
returns-clause-start c = record { columns = []; leads = refl }
