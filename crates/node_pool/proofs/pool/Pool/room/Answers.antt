use Rattle.std.proofs.Common.{length, ap, arith}
use Rattle.node_pool.proofs.Kept.{count_is}
use Rattle.node_pool.proofs.pool.Pool.room.Goals as goal

pub returns-clause-value : goal.returns-clause-value
returns-clause-value g c =
    rw (← c.self.view_is)
    (omega (arith, c.len.ensures, c.len-2.ensures, count_is c.self.invariant, c.self.invariant.counted, c.self.invariant.used))

pub returns-clause-both : goal.returns-clause-both
returns-clause-both g c =
    rw (← c.self.view_is)
    (omega (arith, c.len.ensures, c.len-2.ensures, count_is c.self.invariant, c.self.invariant.counted, c.self.invariant.used))

pub returns-clause-most : goal.returns-clause-most
returns-clause-most g c = omega (arith, ap length c.self.view_is, count_is c.self.invariant, c.self.invariant.few)
