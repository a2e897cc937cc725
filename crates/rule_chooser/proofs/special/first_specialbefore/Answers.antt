use Rattle.std.proofs.Common.{sym, ap, ◌∙◌}
use Rattle.std.proofs.Math.ListN.{drop_of_length-le}
use Rattle.game_rules.specs.Squares.{has_square}
use Rattle.game_rules.specs.declared.Side.TheVariants.{Black}
use Rattle.plan_rules.specs.Rules.{specialbefore}
use Rattle.rule_law.specs.KeptFacts.{facts_in}
use Rattle.rule_chooser.specs.OpenGroups.{groups_for}
use Rattle.rule_chooser.specs.Standing.{special_along}
use Rattle.rule_chooser.proofs.Specials.{found_here, found_later}
use Rattle.rule_chooser.proofs.SpecialGroups.{none_outside, along_groups, along_more, group_is, outside_is}
use Rattle.rule_chooser.proofs.special.first_specialbefore.Goals as goal

pub returns-then-is_empty : goal.returns-then-is_empty
returns-then-is_empty c =
    none_outside c.args.p.now c.args.kept.now c.args.empty c.has_a_board.ensures.board c.requires.kept c.intersection-outside.result
    (outside_is c.args.p.now c.args.kept.now.twin.items c.args.empty c.args.ground.now.playable c.twin_squares.result c.intersection.result
    c.intersection-outside.result c.requires.ground.playable c.twin_squares.ensures c.intersection.ensures c.intersection-outside.ensures)
    (sym c.is_empty.ensures ∙ c.if-is_empty.true)

pub special_of-found-requires-clause-group : goal.special_of-found-requires-clause-group
special_of-found-requires-clause-group c =
    group_is c.args.p.now (groups_for Black c.args.p.now) c.as_slice-group-items.result.now c.loop-group.group-index c.group-item.result
    (c.as_slice-group-items.ensures.value ∙ c.requires.ground.black) c.loop-group-test.true c.group-item.is

pub special_of-found-requires-clause-outside : goal.special_of-found-requires-clause-outside
special_of-found-requires-clause-outside c =
    outside_is c.args.p.now c.args.kept.now.twin.items c.args.empty c.args.ground.now.playable c.twin_squares.result c.intersection.result
    c.intersection-outside.result c.requires.ground.playable c.twin_squares.ensures c.intersection.ensures c.intersection-outside.ensures

pub returns-then-is_some : goal.returns-then-is_some
returns-then-is_some c =
    let p = c.args.p.now in let facts = facts_in c.args.kept.now in let part = has_square c.args.empty in
    found_here (special_along p facts part) _ (along_more p facts part)
    (λ x. specialbefore x.0 x.1 x.2) c.as_slice-group-items.result.now c.loop-group.group-index c.group-item.result c.special_of-found.result
    c.loop-group-test.true c.group-item.is
    c.special_of-found.ensures c.loop-group.invariant (sym c.is_some.ensures ∙ c.if-is_some.true)
    ∙ along_groups p c.args.kept.now c.args.empty c.has_a_board.ensures.board c.requires.kept c.as_slice-group-items.result.now
    (c.as_slice-group-items.ensures.value ∙ c.requires.ground.black)

pub loop-group-preserved : goal.loop-group-preserved
loop-group-preserved c =
    let p = c.args.p.now in let facts = facts_in c.args.kept.now in let part = has_square c.args.empty in
    found_later (special_along p facts part) _ (along_more p facts part)
    (λ x. specialbefore x.0 x.1 x.2) c.as_slice-group-items.result.now c.loop-group.group-index c.group-item.result c.special_of-found.result
    c.loop-group-test.true c.group-item.is
    c.special_of-found.ensures c.loop-group.invariant (sym c.is_some.ensures ∙ c.if-is_some.false)

pub returns : goal.returns
returns c =
    let p = c.args.p.now in let facts = facts_in c.args.kept.now in let part = has_square c.args.empty in
    ap (special_along p facts part) (sym (drop_of_length-le c.as_slice-group-items.result.now c.loop-group-test.false))
    ∙ c.loop-group.invariant
    ∙ along_groups p c.args.kept.now c.args.empty c.has_a_board.ensures.board c.requires.kept c.as_slice-group-items.result.now
    (c.as_slice-group-items.ensures.value ∙ c.requires.ground.black)
