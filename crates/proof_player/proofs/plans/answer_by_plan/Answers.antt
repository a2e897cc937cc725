use Rattle.std.proofs.Common.{ap, ◌∙◌}
use Rattle.plan_rules.specs.Plan.{is_plan}
use Rattle.proof_book.specs.Written.{written_list}
use Rattle.proof_player.proofs.Answered.{plan_accepted}
use Rattle.proof_player.proofs.plans.answer_by_plan.Goals as goal

pub unwrap-plan-requires : goal.unwrap-plan-requires
unwrap-plan-requires c =
    plan_accepted c.seen.result (written_list c.args.list.now) c.check.result c.check.ensures.fault
    (ap (λ p. is_plan p (written_list c.args.list.now)) c.seen.ensures ∙ c.requires.plan)
