use Rattle.rule_chooser.proofs.ZoneBars.{zone_at}
use Rattle.rule_chooser.proofs.full.is_barred.Goals as goal

pub bars-requires : goal.bars-requires
bars-requires c = (
  c.requires.0,
  zone_at c.requires.0 c.args.set.now c.loop-zone.zone-index c.zone-item.result c.requires.1 c.loop-zone-test.true
      c.zone-item.is,
)
