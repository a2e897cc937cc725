use Rattle.std.proofs.Common.{◌+◌, sym, ◌∙◌}
use Rattle.plan_rules.specs.Rules.{facts_of, barred}
use Rattle.plan_rules.specs.Plan.{empty_part}
use Rattle.plan_rules.proofs.Places.{place_here, place_next}
use Rattle.group_rules.specs.KeptFacts.{facts_in}
use Rattle.rule_compat.specs.Written.{written, written_list}
use Rattle.rule_compat.proofs.WrittenLists.{member_at}
use Rattle.rule_compat.proofs.BarredSets.{barred_by_sets}
use Rattle.rule_compat.proofs.lines.first_barring.Goals as goal

pub returns-then-bars : goal.returns-then-bars
returns-then-bars c =
    let x = c.index-list-index.result in let i = c.loop-index.index in
    let p = c.args.p.now in let g = c.args.g in let ws = written_list c.args.list.now in
    let at = member_at c.args.list.now i x c.loop-index-test.true c.index-list-index.is in
    let same = barred_by_sets p g (written x) (facts_in c.args.kept.now) (facts_of p ws) c.empties.result c.group_mask.result c.intersection-squares.result
    c.requires.kept c.empties.ensures c.group_mask.ensures c.intersection-squares.ensures in
    sym (place_here (λ w. barred w (facts_of p ws) (empty_part p g)) (i + 1) ws i (written x) at (sym same ∙ sym c.bars.ensures ∙ c.if-bars.true))
    ∙ c.loop-index.invariant

pub loop-index-preserved : goal.loop-index-preserved
loop-index-preserved c =
    let x = c.index-list-index.result in let i = c.loop-index.index in
    let p = c.args.p.now in let g = c.args.g in let ws = written_list c.args.list.now in
    let at = member_at c.args.list.now i x c.loop-index-test.true c.index-list-index.is in
    let same = barred_by_sets p g (written x) (facts_in c.args.kept.now) (facts_of p ws) c.empties.result c.group_mask.result c.intersection-squares.result
    c.requires.kept c.empties.ensures c.group_mask.ensures c.intersection-squares.ensures in
    sym (place_next (λ w. barred w (facts_of p ws) (empty_part p g)) (i + 1) ws i (written x) at (sym same ∙ sym c.bars.ensures ∙ c.if-bars.false))
    ∙ c.loop-index.invariant
