use Rattle.std.proofs.Common.{sym, ap, ◌∙◌}
use Rattle.game_rules.specs.Squares.{has_square}
use Rattle.plan_rules.specs.Rules.{specialbefore}
use Rattle.plan_rules.specs.Listing.{each_with}
use Rattle.rule_law.specs.KeptFacts.{facts_in}
use Rattle.rule_chooser.specs.Standing.{first_of}
use Rattle.rule_chooser.proofs.Specials.{found_here, found_later, first_each}
use Rattle.rule_chooser.proofs.special.special_among.Goals as goal

pub returns-then-is_some : goal.returns-then-is_some
returns-then-is_some c =
    let p = c.args.p.now in let facts = facts_in c.args.kept.now in let part = has_square c.args.empty in
    found_here (λ fs. first_of p facts part (λ two. specialbefore c.args.group two.0 two.1) (each_with fs c.args.inside)) _
    (first_each p facts part (λ two. specialbefore c.args.group two.0 two.1) c.args.inside)
    (λ x. specialbefore x.0 x.1 x.2) c.as_slice-f-items.result.now c.loop-f.f-index c.f-item.result c.special_with-found.result c.loop-f-test.true c.f-item.is
    c.special_with-found.ensures c.loop-f.invariant (sym c.is_some.ensures ∙ c.if-is_some.true)
    ∙ ap (λ fs. first_of p facts part (λ two. specialbefore c.args.group two.0 two.1) (each_with fs c.args.inside))
    (c.as_slice-f-items.ensures.value ∙ c.squares.ensures)

pub loop-f-preserved : goal.loop-f-preserved
loop-f-preserved c =
    let p = c.args.p.now in let facts = facts_in c.args.kept.now in let part = has_square c.args.empty in
    found_later (λ fs. first_of p facts part (λ two. specialbefore c.args.group two.0 two.1) (each_with fs c.args.inside)) _
    (first_each p facts part (λ two. specialbefore c.args.group two.0 two.1) c.args.inside)
    (λ x. specialbefore x.0 x.1 x.2) c.as_slice-f-items.result.now c.loop-f.f-index c.f-item.result c.special_with-found.result c.loop-f-test.true c.f-item.is
    c.special_with-found.ensures c.loop-f.invariant (sym c.is_some.ensures ∙ c.if-is_some.false)
