use Rattle.std.proofs.Common.{not, sym, ap, ◌∙◌}
use Rattle.std.specs.List.{position_from}
use Rattle.std.specs.Option.{option_map}
use Rattle.plan_rules.specs.Rules.{is_supported}
use Rattle.plan_rules.specs.Refusal.{unanswered}
use Rattle.rule_compat.specs.Written.{written_list}
use Rattle.rule_compat.proofs.Checked.{bare_from, uncovered_refused, unsupported_refused, lines_decide}
use Rattle.rule_compat.proofs.check.cover_accepted.Goals as goal

pub returns-in-Some-clause-fault : goal.returns-in-Some-clause-fault
returns-in-Some-clause-fault c =
    let square = bare_from c.args.p.now c.args.list.now c.args.zones.now c.first_uncovered.result c.requires.zones c.first_uncovered.ensures in
    uncovered_refused c.args.p.now (written_list c.args.list.now) c.in-Some.square (square ∙ c.in-Some.is)

pub returns-in-Some-first_unsupported-clause-fault : goal.returns-in-Some-first_unsupported-clause-fault
returns-in-Some-first_unsupported-clause-fault c =
    let ws = written_list c.args.list.now in
    let square = bare_from c.args.p.now c.args.list.now c.args.zones.now c.first_uncovered.result c.requires.zones c.first_uncovered.ensures in
    let member = ap (λ facts. position_from (λ w. not (is_supported w facts)) 1 ws) (sym c.facts_kept-kept.ensures) ∙ sym c.first_unsupported.ensures in
    unsupported_refused c.args.p.now ws c.in-Some-first_unsupported.member (square ∙ c.in_default.is) (member ∙ c.in-Some-first_unsupported.is)

pub returns-in-Some-first_unanswered-clause-fault : goal.returns-in-Some-first_unanswered-clause-fault
returns-in-Some-first_unanswered-clause-fault c =
    let ws = written_list c.args.list.now in
    let square = bare_from c.args.p.now c.args.list.now c.args.zones.now c.first_uncovered.result c.requires.zones c.first_uncovered.ensures in
    let member = ap (λ facts. position_from (λ w. not (is_supported w facts)) 1 ws) (sym c.facts_kept-kept.ensures) ∙ sym c.first_unsupported.ensures in
    ap (option_map unanswered) (sym c.in-Some-first_unanswered.is ∙ c.first_unanswered.ensures)
    ∙ lines_decide c.args.p.now ws (square ∙ c.in_default.is) (member ∙ c.in_default-first_unsupported.is)

pub returns-clause-fault : goal.returns-clause-fault
returns-clause-fault c =
    let ws = written_list c.args.list.now in
    let square = bare_from c.args.p.now c.args.list.now c.args.zones.now c.first_uncovered.result c.requires.zones c.first_uncovered.ensures in
    let member = ap (λ facts. position_from (λ w. not (is_supported w facts)) 1 ws) (sym c.facts_kept-kept.ensures) ∙ sym c.first_unsupported.ensures in
    ap (option_map unanswered) (sym c.in_default-first_unanswered.is ∙ c.first_unanswered.ensures)
    ∙ lines_decide c.args.p.now ws (square ∙ c.in_default.is) (member ∙ c.in_default-first_unsupported.is)
