use Rattle.std.proofs.Common.{◌≡◌, length}
use Rattle.node_pool.specs.Slots.{free_slots}
use Rattle.node_pool.proofs.tests.fill.Given as goal

abbrev pub invariant-loop-placed : goal.invariant-loop-placed
invariant-loop-placed l = length l.pool ≡ length l.fn.pool

abbrev pub decreases-loop-placed : goal.decreases-loop-placed
decreases-loop-placed l = free_slots l.pool
