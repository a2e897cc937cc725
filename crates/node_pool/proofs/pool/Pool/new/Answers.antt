use Rattle.node_pool.proofs.Kept.{new_slots, none_live, new_kept}
use Rattle.node_pool.proofs.pool.Pool.new.Goals as goal

pub invariant_of-result : goal.invariant_of-result
invariant_of-result g c =
    rw (c.in_ok-with_capacity.ensures.items, c.in_ok-with_capacity-2.ensures.items)
    (new_kept g.row.T.Denot c.args.slots _ _ c.requires.few c.in_ok-with_capacity.ensures.exact c.in_ok-with_capacity-2.ensures.exact)

pub returns-clause-empty : goal.returns-clause-empty
returns-clause-empty g c =
    rw (c.in_ok-with_capacity.ensures.items, c.in_ok-with_capacity-2.ensures.items) (new_slots g.row.T.Denot c.args.slots)

pub returns-clause-none : goal.returns-clause-none
returns-clause-none g c =
    rw (c.in_ok-with_capacity.ensures.items, c.in_ok-with_capacity-2.ensures.items, new_slots g.row.T.Denot c.args.slots)
    (none_live g.row.T.Denot c.args.slots)
