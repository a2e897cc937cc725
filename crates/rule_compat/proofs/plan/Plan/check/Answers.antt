use Rattle.std.proofs.Common.{sym, ◌∙◌}
use Rattle.rule_compat.specs.Written.{written_list}
use Rattle.rule_compat.proofs.Checked.{members_stand, cover_decides, plan_from}
use Rattle.rule_compat.proofs.plan.Plan.check.Goals as goal

pub cover_accepted-requires-clause-members : goal.cover_accepted-requires-clause-members
cover_accepted-requires-clause-members c = members_stand c.args.p.now (written_list c.args.list.now) (sym c.in_ok-members_accepted.ensures.fault)

pub of-requires-clause-plan : goal.of-requires-clause-plan
of-requires-clause-plan c =
    let ws = written_list c.args.list.now in
    plan_from c.args.p.now ws (c.in_ok-kept.ensures.fault
    ∙ cover_decides c.args.p.now ws c.in_ok-position_accepted.ensures c.in_ok-members_accepted.ensures.fault)
