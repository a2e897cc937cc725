use Rattle.std.proofs.Common.{arith}
use Rattle.node_pool.proofs.Kept.{live_here, live_used, value_set, as_many_set, kept_set}
use Rattle.node_pool.proofs.pool.Pool.set.Goals as goal

pub index_mut-requires : goal.index_mut-requires
index_mut-requires g c =
    let live = live_here c.self.invariant c.self.view_is c.args.at c.requires in
    omega (arith, c.index.ensures, live_used c.self.invariant c.args.at live)

pub invariant_of-self : goal.invariant_of-self
invariant_of-self g c =
    let live = live_here c.self.invariant c.self.view_is c.args.at c.requires in
    rw c.index.ensures (kept_set c.self.invariant c.args.at _ live)

pub returns-clause-set : goal.returns-clause-set
returns-clause-set g c =
    let live = live_here c.self.invariant c.self.view_is c.args.at c.requires in
    rw (c.index.ensures, ← c.self.view_is) (value_set c.self.invariant c.args.at c.args.value live)

pub returns-clause-count : goal.returns-clause-count
returns-clause-count g c =
    let live = live_here c.self.invariant c.self.view_is c.args.at c.requires in
    rw (c.index.ensures, ← c.self.view_is) (as_many_set c.self.invariant c.args.at c.args.value live)
