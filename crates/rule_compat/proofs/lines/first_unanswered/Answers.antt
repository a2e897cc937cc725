use Rattle.std.proofs.Common.{not, sym, ap, ◌∙◌, refl, length}
use Rattle.std.specs.List.{find}
use Rattle.std.proofs.lemmas.Option.{slice_get_read}
use Rattle.std.proofs.Math.ListN.{drop_of_length-le}
use Rattle.plan_rules.specs.Plan.{is_barred}
use Rattle.plan_rules.proofs.Places.{find_here, find_next}
use Rattle.rule_compat.specs.Written.{written_list}
use Rattle.rule_compat.proofs.UnansweredLines.{none_bars, first_open_line}
use Rattle.rule_compat.proofs.lines.first_unanswered.Goals as goal

pub returns-then-is_none : goal.returns-then-is_none
returns-then-is_none c =
    let p = c.args.p.now in let ws = written_list c.args.list.now in let gs = c.as_slice-g-items.result.now in
    let at = slice_get_read gs (length gs) c.loop-g.g-index c.g-item.result refl c.loop-g-test.true c.g-item.is in
    sym (find_here (λ g. not (is_barred p ws g)) gs c.loop-g.g-index c.g-item.result at
    (none_bars p ws c.g-item.result c.first_barring.result c.is_none.result c.first_barring.ensures c.is_none.ensures ∙ c.if-is_none.true))
    ∙ c.loop-g.invariant
    ∙ first_open_line p ws gs (c.as_slice-g-items.ensures.value ∙ c.groups-groups.ensures ∙ c.free_for.ensures.in_order)

pub loop-g-preserved : goal.loop-g-preserved
loop-g-preserved c =
    let p = c.args.p.now in let ws = written_list c.args.list.now in let gs = c.as_slice-g-items.result.now in
    let at = slice_get_read gs (length gs) c.loop-g.g-index c.g-item.result refl c.loop-g-test.true c.g-item.is in
    sym (find_next (λ g. not (is_barred p ws g)) gs c.loop-g.g-index c.g-item.result at
    (none_bars p ws c.g-item.result c.first_barring.result c.is_none.result c.first_barring.ensures c.is_none.ensures ∙ c.if-is_none.false))
    ∙ c.loop-g.invariant

pub returns : goal.returns
returns c =
    let p = c.args.p.now in let ws = written_list c.args.list.now in let gs = c.as_slice-g-items.result.now in
    ap (find (λ g. not (is_barred p ws g))) (sym (drop_of_length-le gs c.loop-g-test.false))
    ∙ c.loop-g.invariant
    ∙ first_open_line p ws gs (c.as_slice-g-items.ensures.value ∙ c.groups-groups.ensures ∙ c.free_for.ensures.in_order)
