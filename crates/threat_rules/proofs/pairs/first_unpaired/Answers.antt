use Rattle.std.proofs.Common.{sym, ap, ◌∙◌, length, arith}
use Rattle.game_rules.specs.Board.{Board}
use Rattle.odd_rules.specs.Threat.{is_unpaired}
use Rattle.threat_rules.proofs.Answering.{range_next}
use Rattle.threat_rules.proofs.pairs.first_unpaired.Goals as goal

pub loop-index-preserved : goal.loop-index-preserved
loop-index-preserved c =
    let test = is_unpaired c.args.p.now c.args.t c.args.pairs.now in
    let cols = ap (λ (b : Board). b.cols) c.size-size.ensures.value in
    range_next test c.loop-index.index (length c.args.p.now.columns) (omega arith)
    (ap test (sym c.nth_column-column.ensures) ∙ sym c.is_unpaired.ensures ∙ c.if-is_unpaired.false)
    ∙ c.loop-index.invariant
