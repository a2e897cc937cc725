use Rattle.std.proofs.Common.{sym}
use Rattle.rule_compat.specs.Written.{written_list}
use Rattle.rule_compat.proofs.Checked.{members_stand}
use Rattle.rule_compat.proofs.plan.Plan.test.Goals as goal

pub cover_accepted-requires-clause-members : goal.cover_accepted-requires-clause-members
cover_accepted-requires-clause-members c = members_stand c.args.p.now (written_list c.args.list.now) (sym c.in_ok-members_accepted.ensures.fault)
