use Rattle.std.proofs.Common.{◌<◌, ◌+◌, is_some, sym, ap, subst, ◌∙◌, arith}
use Rattle.front_rules.specs.Front.{node_count}
use Rattle.node_pool.specs.Slots.{live_slots}
use Rattle.proof_front.specs.Cells.{Owns}
use Rattle.proof_front.specs.Rows.{row_at}
use Rattle.proof_front.proofs.Cells.{mine, given_to}
use Rattle.proof_front.proofs.Parts.{opened_at, below_at, fewer_below, beside_freed, fewer_freed}
use Rattle.proof_front.proofs.rows.+free_row.Goals as goal

pub free_row-requires : goal.free_row-requires
free_row-requires t c =
    let side = c.requires.row.0 in let given = c.requires.row.1 in
    let o = opened_at side given.row given.others c.in-Some.is c.get-node.ensures given.lies in
    let fewer : node_count (row_at c.args.pool.now c.get-node.result.now.first) < t =
    omega (arith, fewer_below side given.row given.others given.lies o, c.decreases) in
    (fewer, (side, below_at side given.row given.others given.lies o))

pub free_row-requires-2 : goal.free_row-requires-2
free_row-requires-2 t c =
    let side = c.requires.row.0 in let given = c.requires.row.1 in
    let o = opened_at side given.row given.others c.in-Some.is c.get-node.ensures given.lies in
    let left = beside_freed side given.row given.others given.lies o (c.free_row.ensures.freed side _ _ o.below) in
    let fewer : node_count (row_at c.free_row.new.pool c.get-node.result.now.next) < t =
    omega (arith, fewer_freed side given.row given.others given.lies o left, c.decreases) in
    (fewer, (side, record { row = _; others = _; lies = left }))

pub give_back-requires : goal.give_back-requires
give_back-requires t c =
    let side = c.requires.row.0 in let given = c.requires.row.1 in
    let o = opened_at side given.row given.others c.in-Some.is c.get-node.ensures given.lies in
    let left = beside_freed side given.row given.others given.lies o (c.free_row.ensures.freed side _ _ o.below) in
    ap is_some (mine c.in-Some.slot c.get-node.result.now given.others (c.free_row-2.ensures.freed side _ _ left))

pub returns-clause-freed : goal.returns-clause-freed
returns-clause-freed t c side row others lies =
    let o = opened_at side row others c.in-Some.is c.get-node.ensures lies in
    let left = beside_freed side row others lies o (c.free_row.ensures.freed side _ _ o.below) in
    subst (λ s. Owns s others) (sym c.give_back.ensures.taken)
    (given_to c.in-Some.slot c.get-node.result.now others (c.free_row-2.ensures.freed side _ _ left) (ap (λ s. live_slots s + 1) (sym c.give_back.ensures.taken)
    ∙ c.give_back.ensures.count))
