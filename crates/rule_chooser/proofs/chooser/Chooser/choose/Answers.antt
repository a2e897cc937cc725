use Rattle.std.proofs.Common.{sym, ap, ◌∙◌}
use Rattle.walk_rules.specs.Walk.{gave}
use Rattle.rule_compat.specs.Written.{written_list}
use Rattle.rule_chooser.proofs.ChosenPlans.{is_accepted}
use Rattle.rule_chooser.proofs.chooser.Chooser.choose.Goals as goal

pub unwrap-requires : goal.unwrap-requires
unwrap-requires c =
    is_accepted c.args.p.now c.args.reach (written_list c.as_slice.result.now) c.check.result c.check.ensures.fault
    (c.in-Plan.ensures.found ∙ ap (λ list. gave (written_list list)) (sym (c.as_slice.ensures.value ∙ c.self.view_is)))
