use Rattle.std.proofs.Common.{length, ap, arith}
use Rattle.node_pool.proofs.Kept.{count_is}
use Rattle.node_pool.proofs.pool.Pool.live.Goals as goal

pub returns-clause-most : goal.returns-clause-most
returns-clause-most g c = omega (arith, ap length c.self.view_is, count_is c.self.invariant, c.self.invariant.few)
