use Rattle.std.proofs.Common.{sym, ap, ◌∙◌}
use Rattle.std.specs.Option.{option_map}
use Rattle.plan_rules.specs.Refusal.{clash}
use Rattle.rule_compat.specs.Written.{written_list}
use Rattle.rule_compat.proofs.Checked.{fitting_from, clash_refusal}
use Rattle.rule_compat.proofs.check.members_accepted.Goals as goal

pub gather-requires-clause-fitting : goal.gather-requires-clause-fitting
gather-requires-clause-fitting c = fitting_from c.args.p.now (written_list c.args.list.now) (sym c.first_misfit.ensures ∙ c.in_default.is)

pub returns-in-Some-gather-clause-fault : goal.returns-in-Some-gather-clause-fault
returns-in-Some-gather-clause-fault c =
    ap (option_map (λ two. clash two.0 two.1)) (sym c.in-Some-gather.is ∙ c.gather.ensures.two)
    ∙ clash_refusal c.args.p.now c.args.list.now (sym c.first_misfit.ensures ∙ c.in_default.is)

pub returns-in-None-clause-fault : goal.returns-in-None-clause-fault
returns-in-None-clause-fault c =
    ap (option_map (λ two. clash two.0 two.1)) (sym c.in-None.is ∙ c.gather.ensures.two)
    ∙ clash_refusal c.args.p.now c.args.list.now (sym c.first_misfit.ensures ∙ c.in_default.is)
