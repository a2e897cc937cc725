use Rattle.std.proofs.Common.{length, refl, sym, ap, ◌∙◌, subst, arith}
use Rattle.std.proofs.lemmas.List.{length-map}
use Rattle.game_rules.specs.declared.Side.TheVariants.{White}
use Rattle.plan_rules.specs.Rules.{Facts, facts_of}
use Rattle.plan_rules.specs.Refusal.{StandTogether}
use Rattle.rule_compat.specs.Written.{written_list}
use Rattle.rule_chooser.specs.OpenGroups.{open_group_at, groups_for}
use Rattle.rule_chooser.proofs.SpecialGroups.{group_is}
use Rattle.rule_chooser.proofs.GroupAnswers.{stand_together, part_empty}
use Rattle.rule_chooser.proofs.GivenLists.{answers_more, given_all}
use Rattle.rule_chooser.proofs.full.add_answers.Goals as goal

pub facts_kept-kept-requires : goal.facts_kept-kept-requires
facts_kept-kept-requires c = subst (λ list. StandTogether c.args.p.now (written_list list)) (sym c.as_slice.ensures.value)
    (stand_together c.args.p.now (written_list c.args.list.now.items) c.requires.set)

pub add_answer-requires-clause-kept : goal.add_answer-requires-clause-kept
add_answer-requires-clause-kept c = λ u. ap (λ (facts : Facts). facts.empty u) c.facts_kept-kept.ensures

pub add_answer-requires-clause-part : goal.add_answer-requires-clause-part
add_answer-requires-clause-part c =
    part_empty c.args.p.now c.has_a_board.ensures.board c.group-item.result
    (group_is c.args.p.now (groups_for White c.args.p.now) c.as_slice-group-items.result.now c.loop-group.group-index c.group-item.result
    (c.as_slice-group-items.ensures.value ∙ c.requires.ground.white) c.loop-group-test.true c.group-item.is)

pub loop-group-preserved : goal.loop-group-preserved
loop-group-preserved c =
    let l = c.loop-group.invariant in let least = c.add_answer.ensures.least in let most = c.add_answer.ensures.most in let low = l.least in
    let high = l.most in
    record {
      zones = c.add_answer.ensures.zones ∙ l.zones;
      answers = answers_more c.args.p.now (written_list c.args.list.now.items) _ c.has_a_board.ensures.board
          (c.as_slice-group-items.ensures.value ∙ c.requires.ground.white) c.loop-group-test.true c.group-item.is
          (c.facts_kept-kept.ensures ∙ ap (λ zs. facts_of c.args.p.now (written_list zs)) c.as_slice.ensures.value) (ap written_list l.zones)
          c.add_answer.ensures.answers
          ∙ l.answers;
      least = omega (arith, least, low);
      most = omega (arith, most, high);
    }

pub returns-clause-given : goal.returns-clause-given
returns-clause-given c =
    let p = c.args.p.now in let past = c.loop-group-test.false in
    given_all p (written_list c.args.list.now.items) c.len-zones.result c.loop-group.list.items c.args.list.now.items c.loop-group.group-index refl
    c.loop-group.invariant.zones
    (omega (arith, past, ap length (c.as_slice-group-items.ensures.value ∙ c.requires.ground.white), length-map (groups_for White p) (open_group_at p)))
    c.loop-group.invariant.answers
