use Rattle.std.proofs.Common.{sym, ap, ◌∙◌}
use Rattle.game_rules.specs.Squares.{has_square}
use Rattle.plan_rules.specs.Rules.{specialbefore}
use Rattle.rule_law.specs.KeptFacts.{facts_in}
use Rattle.rule_chooser.specs.Standing.{does_answer}
use Rattle.rule_chooser.proofs.Specials.{made_is, chosen_then, chosen_else}
use Rattle.rule_chooser.proofs.special.special_at.Goals as goal

pub returns-then-does_answer : goal.returns-then-does_answer
returns-then-does_answer c =
    chosen_then (does_answer c.args.p.now (facts_in c.args.kept.now) (has_square c.args.empty)) _ _
    (ap (λ x. specialbefore x.0 x.1 x.2) (sym (made_is _ (c.args.group, c.args.f, c.args.e0) c.in_ok-rule.rule (sym c.new.ensures ∙ c.in_ok-rule.was))))
    (sym c.does_answer.ensures ∙ c.if-does_answer.true)

pub returns-else-does_answer : goal.returns-else-does_answer
returns-else-does_answer c =
    chosen_else (does_answer c.args.p.now (facts_in c.args.kept.now) (has_square c.args.empty)) _ _
    (ap (λ x. specialbefore x.0 x.1 x.2) (sym (made_is _ (c.args.group, c.args.f, c.args.e0) c.in_ok-rule.rule (sym c.new.ensures ∙ c.in_ok-rule.was))))
    (sym c.does_answer.ensures ∙ c.if-does_answer.false)
