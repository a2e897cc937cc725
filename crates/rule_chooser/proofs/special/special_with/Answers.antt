use Rattle.std.proofs.Common.{sym, ap, ◌∙◌}
use Rattle.game_rules.specs.Squares.{has_square}
use Rattle.plan_rules.specs.Rules.{specialbefore}
use Rattle.rule_law.specs.KeptFacts.{facts_in}
use Rattle.rule_chooser.specs.Standing.{first_of}
use Rattle.rule_chooser.proofs.Specials.{found_here, found_later, first_cons}
use Rattle.rule_chooser.proofs.special.special_with.Goals as goal

pub returns-then-is_some : goal.returns-then-is_some
returns-then-is_some c =
    let p = c.args.p.now in let facts = facts_in c.args.kept.now in let part = has_square c.args.empty in
    found_here (first_of p facts part (λ e0. specialbefore c.args.group c.args.f e0)) _ (first_cons p facts part (λ e0. specialbefore c.args.group c.args.f e0))
    (λ x. specialbefore x.0 x.1 x.2) c.as_slice-e0-items.result.now c.loop-e0.e0-index c.e0-item.result c.special_at-found.result c.loop-e0-test.true
    c.e0-item.is
    c.special_at-found.ensures c.loop-e0.invariant (sym c.is_some.ensures ∙ c.if-is_some.true)
    ∙ ap (first_of p facts part (λ e0. specialbefore c.args.group c.args.f e0)) (c.as_slice-e0-items.ensures.value ∙ c.squares.ensures)

pub loop-e0-preserved : goal.loop-e0-preserved
loop-e0-preserved c =
    let p = c.args.p.now in let facts = facts_in c.args.kept.now in let part = has_square c.args.empty in
    found_later (first_of p facts part (λ e0. specialbefore c.args.group c.args.f e0)) _
    (first_cons p facts part (λ e0. specialbefore c.args.group c.args.f e0))
    (λ x. specialbefore x.0 x.1 x.2) c.as_slice-e0-items.result.now c.loop-e0.e0-index c.e0-item.result c.special_at-found.result c.loop-e0-test.true
    c.e0-item.is
    c.special_at-found.ensures c.loop-e0.invariant (sym c.is_some.ensures ∙ c.if-is_some.false)
