use Rattle.threat_rules.proofs.SafeSets.{pair_joins}
use Rattle.threat_rules.proofs.answered.squares_of_pairs.Goals as goal

pub loop-pair-preserved : goal.loop-pair-preserved
loop-pair-preserved c =
    pair_joins c.args.pairs.now c.loop-pair.pair-index c.pair-item.result c.s.result c.t.result c.loop-pair.squares c.with.result c.with-squares.result
    c.loop-pair-test.true c.pair-item.is c.s.ensures.value c.t.ensures.value c.loop-pair.invariant c.with.ensures c.with-squares.ensures
