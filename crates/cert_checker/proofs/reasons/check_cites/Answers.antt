use Rattle.cert_checker.proofs.Columns.{cited_room}
use Rattle.cert_checker.proofs.reasons.check_cites.Goals as goal

pub after-requires : goal.after-requires
after-requires c = cited_room c.args.position.now c.args.cites.now c.loop-cite.cite-index c.cite-item.result c.requires.room c.loop-cite-test.true
    c.cite-item.is
