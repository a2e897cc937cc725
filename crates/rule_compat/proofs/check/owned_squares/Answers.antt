use Rattle.rule_compat.proofs.Checked.{zone_joins, zones_joined}
use Rattle.rule_compat.proofs.check.owned_squares.Goals as goal

pub loop-zone-preserved : goal.loop-zone-preserved
loop-zone-preserved c =
    zone_joins c.args.zones.now c.loop-zone.zone-index c.zone-item.result c.loop-zone.owned c.squares.result c.union-owned.result
    c.loop-zone-test.true c.zone-item.is c.loop-zone.invariant c.squares.ensures c.union-owned.ensures

pub returns : goal.returns
returns c = zones_joined c.args.zones.now c.loop-zone.zone-index c.loop-zone.owned c.loop-zone-test.false c.loop-zone.invariant
