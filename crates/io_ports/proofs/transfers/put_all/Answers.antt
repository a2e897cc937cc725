use Rattle.std.proofs.Common.{ap, length, arith}
use Rattle.io_ports.proofs.Prefixes.{Appends_more}
use Rattle.io_ports.proofs.transfers.put_all.Goals as goal

-- one more write goes on where the last one stopped
pub loop-done-preserved : goal.loop-done-preserved
loop-done-preserved g c =
    let within = c.in_ok-done.ensures.within in (
      omega (arith, within.1),
      Appends_more _ _ _ c.args.piece.now c.loop-done.done _ c.loop-done.invariant.1 c.in_ok-done.ensures.bytes,
      omega (arith, c.write.ensures.cause.later),
      λ empty. absurd (omega (arith, ap length empty)),
    )
