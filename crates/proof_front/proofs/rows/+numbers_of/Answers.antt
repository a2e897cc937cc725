use Rattle.std.proofs.Common.{◌<◌, true, false, not, ap, arith}
use Rattle.front_rules.specs.Front.{node_count}
use Rattle.proof_front.specs.Rows.{row_at}
use Rattle.proof_front.proofs.Parts.{opened_at, beside_at, fewer_beside, small, numbers_more}
use Rattle.proof_front.proofs.rows.+numbers_of.Goals as goal

pub numbers_of-beside-requires : goal.numbers_of-beside-requires
numbers_of-beside-requires t c =
    let side = c.requires.row.0 in let given = c.requires.row.1 in
    let o = opened_at side given.row given.others c.in-Some.is c.get-node.ensures given.lies in
    let fewer : node_count (row_at c.args.pool.now c.get-node.result.now.next) < t =
    omega (arith, fewer_beside side given.row given.others given.lies o, c.decreases) in
    (fewer, (c.requires.few, (side, beside_at side given.row given.others given.lies o)))

pub joined-requires : goal.joined-requires
joined-requires t c =
    let side = c.requires.row.0 in let given = c.requires.row.1 in
    let o = opened_at side given.row given.others c.in-Some.is c.get-node.ensures given.lies in
    small side given.row given.others given.lies o true c.args.own c.numbers_of-beside.result.proof c.requires.few
    (ap (λ n. n.proof) (c.numbers_of-beside.ensures side _ _ o.beside))

pub joined-requires-2 : goal.joined-requires-2
joined-requires-2 t c =
    let side = c.requires.row.0 in let given = c.requires.row.1 in
    let o = opened_at side given.row given.others c.in-Some.is c.get-node.ensures given.lies in
    small side given.row given.others given.lies o false (not c.args.own) c.numbers_of-beside.result.disproof c.requires.few
    (ap (λ n. n.disproof) (c.numbers_of-beside.ensures side _ _ o.beside))

pub returns : goal.returns
returns t c side row others lies =
    let o = opened_at side row others c.in-Some.is c.get-node.ensures lies in
    numbers_more side row others lies o c.args.own c.numbers_of-beside.result c.joined.result c.joined-2.result (c.numbers_of-beside.ensures side _ _ o.beside)
    c.joined.ensures c.joined-2.ensures
