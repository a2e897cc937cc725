use Rattle.std.proofs.Common.{arith}
use Rattle.io_ports.proofs.Prefixes.{Consumes_more, put_mid_long}
use Rattle.io_ports.proofs.transfers.read_all.Goals as goal

-- one more read goes on where the last one stopped
pub loop-filled-preserved : goal.loop-filled-preserved
loop-filled-preserved g c =
    let within = c.in_ok-count.ensures.within in
    let before = c.loop-filled.invariant in (
      put_mid_long c.loop-filled.buf c.read.new.buf c.loop-filled.filled _ _ before.0 within,
      Consumes_more _ _ _ c.loop-filled.buf c.read.new.buf c.loop-filled.filled _ _ before.0 within before.1 c.in_ok-count.ensures.bytes.0,
      omega (arith, c.read.ensures.cause.later),
    )
