use Rattle.node_pool.proofs.Kept.{live_here, value_taken, one_taken, kept_taken}
use Rattle.node_pool.proofs.pool.Pool.give_back.Goals as goal

pub invariant_of-self : goal.invariant_of-self
invariant_of-self g c =
    let live = live_here c.self.invariant c.self.view_is c.args.at c.requires in
    rw (c.push_reserved.ensures.items, c.push_reserved.ensures.capacity, c.number.ensures) (kept_taken c.self.invariant c.args.at live)

pub returns-clause-taken : goal.returns-clause-taken
returns-clause-taken g c =
    let live = live_here c.self.invariant c.self.view_is c.args.at c.requires in
    rw (c.push_reserved.ensures.items, c.number.ensures, ← c.self.view_is) (value_taken c.self.invariant c.args.at live)

pub returns-clause-count : goal.returns-clause-count
returns-clause-count g c =
    let live = live_here c.self.invariant c.self.view_is c.args.at c.requires in
    rw (c.push_reserved.ensures.items, c.number.ensures, ← c.self.view_is) (one_taken c.self.invariant c.args.at live)
