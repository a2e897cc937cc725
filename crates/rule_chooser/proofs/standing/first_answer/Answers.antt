use Rattle.std.proofs.Common.{Some, None, sym, ap, ◌∙◌}
use Rattle.std.specs.Option.{option_map}
use Rattle.plan_rules.specs.Rules.{vertical, aftereven, before, specialbefore}
use Rattle.rule_compat.specs.Written.{written}
use Rattle.rule_chooser.proofs.StandingFirst.{at_second, at_third, at_last}
use Rattle.rule_chooser.proofs.standing.first_answer.Goals as goal

pub returns-in-Some-first_aftereven : goal.returns-in-Some-first_aftereven
returns-in-Some-first_aftereven c =
    at_second _ _ _ _ (aftereven c.new.result) (ap (option_map vertical) (sym c.first_vertical.ensures ∙ c.in_default.is))
    (sym c.first_aftereven.ensures ∙ ap (option_map aftereven) (c.in-Some-first_aftereven.is ∙ ap Some (sym c.new.ensures)))

pub returns-in-Some-first_before : goal.returns-in-Some-first_before
returns-in-Some-first_before c =
    at_third _ _ _ _ (before c.new-in-Some-first_before.result) (ap (option_map vertical) (sym c.first_vertical.ensures ∙ c.in_default.is))
    (sym c.first_aftereven.ensures ∙ ap (option_map aftereven) c.in_default-first_aftereven.is)
    (sym c.first_before.ensures ∙ ap (option_map before) (c.in-Some-first_before.is ∙ ap Some (sym c.new-in-Some-first_before.ensures)))

pub returns-in_err-rule : goal.returns-in_err-rule
returns-in_err-rule c =
    ap (option_map written) c.from_residual.ensures
    ∙ at_last _ _ _ _ None (ap (option_map vertical) (sym c.first_vertical.ensures ∙ c.in_default.is))
    (sym c.first_aftereven.ensures ∙ ap (option_map aftereven) c.in_default-first_aftereven.is)
    (sym c.first_before.ensures ∙ ap (option_map before) c.in_default-first_before.is)
    (sym (ap (option_map (λ x. specialbefore x.0 x.1 x.2)) c.in_err-rule.was) ∙ c.first_specialbefore.ensures)

pub returns : goal.returns
returns c =
    at_last _ _ _ _ (Some (specialbefore c.in_ok-rule.rule.0 c.in_ok-rule.rule.1 c.in_ok-rule.rule.2))
    (ap (option_map vertical) (sym c.first_vertical.ensures ∙ c.in_default.is))
    (sym c.first_aftereven.ensures ∙ ap (option_map aftereven) c.in_default-first_aftereven.is)
    (sym c.first_before.ensures ∙ ap (option_map before) c.in_default-first_before.is)
    (sym (ap (option_map (λ x. specialbefore x.0 x.1 x.2)) c.in_ok-rule.was) ∙ c.first_specialbefore.ensures)
