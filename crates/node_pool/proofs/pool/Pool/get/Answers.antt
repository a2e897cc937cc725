use Rattle.std.proofs.Common.{Some, sym, ap, ◌∙◌, arith}
use Rattle.node_pool.proofs.Kept.{live_here, live_used, live_value}
use Rattle.node_pool.proofs.pool.Pool.get.Goals as goal

pub index-requires-2 : goal.index-requires-2
index-requires-2 g c =
    let live = live_here c.self.invariant c.self.view_is c.args.at c.requires in
    omega (arith, c.index.ensures, live_used c.self.invariant c.args.at live)

pub returns : goal.returns
returns g c =
    let live = live_here c.self.invariant c.self.view_is c.args.at c.requires in
    rw (← c.self.view_is)
    (live_value c.self.invariant c.args.at c.index-2.result.now live ∙ ap Some (sym (rw (← c.index.ensures) c.index-2.ensures)))
