use Rattle.std.proofs.Common.{◌≡◌, false, ◌&&◌, drop, ◌+◌, sym, ap, ◌∙◌, subst}
use Rattle.std.specs.List.{list_all}
use Rattle.std.proofs.lemmas.List.{at_drop_more}
use Rattle.std.proofs.Math.ListN.{drop_of_length-le}
use Rattle.game_rules.specs.declared.Side.TheVariants.{White}
use Rattle.plan_rules.specs.Rules.{Facts, facts_of}
use Rattle.plan_rules.specs.Refusal.{StandTogether}
use Rattle.rule_law.specs.KeptFacts.{facts_in}
use Rattle.rule_compat.specs.Written.{written_list}
use Rattle.rule_chooser.specs.declared.groups.OpenGroup.{OpenGroup}
use Rattle.rule_chooser.specs.OpenGroups.{groups_for}
use Rattle.rule_chooser.specs.Standing.{is_answered_by}
use Rattle.rule_chooser.proofs.SpecialGroups.{group_is}
use Rattle.rule_chooser.proofs.GroupAnswers.{stand_together, part_empty, all_answered}
use Rattle.rule_chooser.proofs.full.is_answered.Goals as goal

pub facts_kept-kept-requires : goal.facts_kept-kept-requires
facts_kept-kept-requires c = subst (λ list. StandTogether c.args.p.now (written_list list)) (sym (c.as_slice.ensures.value ∙ c.list_instances.ensures))
    (stand_together c.args.p.now (written_list c.args.set.now) c.requires.set)

pub has_answer-requires-clause-kept : goal.has_answer-requires-clause-kept
has_answer-requires-clause-kept c = λ u. ap (λ (facts : Facts). facts.empty u) c.facts_kept-kept.ensures

pub has_answer-requires-clause-part : goal.has_answer-requires-clause-part
has_answer-requires-clause-part c =
    part_empty c.args.p.now c.has_a_board.ensures.board c.group-item.result
    (group_is c.args.p.now (groups_for White c.args.p.now) c.as_slice-group-items.result.now c.loop-group.group-index c.group-item.result
    (c.as_slice-group-items.ensures.value ∙ c.requires.ground.white) c.loop-group-test.true c.group-item.is)

pub returns-then-not-has_answer-clause-answered : goal.returns-then-not-has_answer-clause-answered
returns-then-not-has_answer-clause-answered c =
    let p = c.args.p.now in let facts = facts_in c.facts_kept-kept.result in let list = c.list_instances.new.list.items in let groups =
    c.as_slice-group-items.result.now in let i = c.loop-group.group-index in
    let same = c.as_slice.ensures.value ∙ c.list_instances.ensures in
    let none : false ≡ is_answered_by p facts (written_list list) c.group-item.result.empty =
    sym c.if-not-has_answer.true ∙ c.has_answer.ensures ∙ ap (λ zs. is_answered_by p facts (written_list zs) c.group-item.result.empty)
    (sym c.list_instances.ensures) in
    ap (λ b. b && list_all (λ (group : OpenGroup). is_answered_by p facts (written_list list) group.empty) (drop (i + 1) groups))
    (none ∙ ap (λ (group : OpenGroup). is_answered_by p facts (written_list list) group.empty) c.group-item.is)
    ∙ sym (at_drop_more (list_all (λ (group : OpenGroup). is_answered_by p facts (written_list list) group.empty)) groups i c.group-item.result
    c.loop-group-test.true)
    ∙ c.loop-group.invariant
    ∙ ap (λ zs. list_all (λ (group : OpenGroup). is_answered_by p facts (written_list zs) group.empty) groups) c.list_instances.ensures
    ∙ all_answered p (written_list c.args.set.now) c.has_a_board.ensures.board facts groups
    (c.facts_kept-kept.ensures ∙ ap (λ zs. facts_of p (written_list zs)) same) (c.as_slice-group-items.ensures.value ∙ c.requires.ground.white)

pub returns-clause-answered : goal.returns-clause-answered
returns-clause-answered c =
    let p = c.args.p.now in let facts = facts_in c.facts_kept-kept.result in let list = c.list_instances.new.list.items in let groups =
    c.as_slice-group-items.result.now in
    let same = c.as_slice.ensures.value ∙ c.list_instances.ensures in
    ap (list_all (λ (group : OpenGroup). is_answered_by p facts (written_list list) group.empty)) (sym (drop_of_length-le groups c.loop-group-test.false))
    ∙ c.loop-group.invariant
    ∙ ap (λ zs. list_all (λ (group : OpenGroup). is_answered_by p facts (written_list zs) group.empty) groups) c.list_instances.ensures
    ∙ all_answered p (written_list c.args.set.now) c.has_a_board.ensures.board facts groups
    (c.facts_kept-kept.ensures ∙ ap (λ zs. facts_of p (written_list zs)) same) (c.as_slice-group-items.ensures.value ∙ c.requires.ground.white)
