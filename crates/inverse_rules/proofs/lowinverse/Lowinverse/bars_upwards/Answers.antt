use Rattle.std.proofs.Common.{◌++◌, ◌∙◌}
use Rattle.plan_rules.specs.Squares.{span}
use Rattle.plan_rules.proofs.Spans.{under_met}
use Rattle.inverse_rules.proofs.lowinverse.Lowinverse.bars_upwards.Goals as goal

pub returns : goal.returns
returns c =
    let x = c.args.self.now in
    c.meets.ensures
    ∙ under_met c.args.set c.odd_rows.result c.intersection-odd.result c.zone.result (span x.0 x.1 ++ span x.2 x.3) c.odd_rows.ensures
    c.intersection-odd.ensures c.zone.ensures c.lowered.result
    c.intersection.result c.lowered.ensures c.intersection.ensures
