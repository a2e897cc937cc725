use Rattle.std.proofs.Common.{◌≡◌, ℕ, ◌-◌, ◌<◌, ◌≤◌, length}
use Rattle.node_pool.specs.Slots.{IsLive}
use Rattle.node_pool.specs.declared.pool.TheConstants.{MOST_SLOTS}
use Rattle.node_pool.proofs.tests.give_back_every_third.Given as goal

abbrev pub invariant-loop-number : goal.invariant-loop-number
invariant-loop-number l = record {
  size : l.slots ≡ length l.pool;
  few : l.slots ≤ MOST_SLOTS;
  live : (at : ℕ) → l.number ≤ at → at < length l.pool → IsLive l.pool at;
}

abbrev pub decreases-loop-number : goal.decreases-loop-number
decreases-loop-number l = l.slots - l.number
