use Rattle.std.proofs.Common.{arith}
use Rattle.proof_front.proofs.Opening.{first_held}
use Rattle.proof_front.proofs.Renewing.{own_is}
use Rattle.proof_front.proofs.Expansions.{tested, beside_asked, beside_less, beside_grown, leaf_going, leaf_grown}
use Rattle.proof_front.proofs.Expansions.{below_asked, below_less, kids_below, changed_grown, same_grown}
use Rattle.proof_front.proofs.growing.+grow_in.Goals as goal

pub get-node-requires : goal.get-node-requires
get-node-requires t c = first_held c.args.asked.now.side c.args.at c.requires.row.row c.requires.row.others c.requires.row.lies

pub grow_in-requires : goal.grow_in-requires
grow_in-requires t c =
    let here = c.get-node.ensures in let proof = c.args.proof in let least = c.args.least in let next = c.unwrap-next.ensures in
    let apart = tested proof c.get-node.result.now least c.number.ensures c.same.ensures c.if-not-same.true in
    let fewer = beside_less here proof least apart c.requires.row next in
    (omega (arith, fewer, c.decreases), (c.requires.few, beside_asked here proof least apart c.requires.row next))

pub returns-then-not-same-clause-row : goal.returns-then-not-same-clause-row
returns-then-not-same-clause-row t c row others lies =
    let apart = tested c.args.proof c.get-node.result.now c.args.least c.number.ensures c.same.ensures c.if-not-same.true in
    beside_grown c.get-node.ensures c.args.proof c.args.least apart lies c.unwrap-next.ensures c.grow_in.ensures.row

pub expand-requires-clause-leaf : goal.expand-requires-clause-leaf
expand-requires-clause-leaf t c =
    let found = tested c.args.proof c.get-node.result.now c.args.least c.number.ensures c.same.ensures c.if-not-same.false in
    leaf_going c.get-node.ensures c.args.proof c.args.least found c.requires.row c.in_default.is

pub returns-in_default-clause-row : goal.returns-in_default-clause-row
returns-in_default-clause-row t c row others lies =
    let found = tested c.args.proof c.get-node.result.now c.args.least c.number.ensures c.same.ensures c.if-not-same.false in
    leaf_grown c.get-node.ensures c.args.proof c.args.least found lies c.in_default.is c.expand.ensures.leaf

pub grow_in-requires-2 : goal.grow_in-requires-2
grow_in-requires-2 t c =
    let here = c.get-node.ensures in let proof = c.args.proof in let least = c.args.least in let row = c.requires.row in
    let found = tested proof c.get-node.result.now least c.number.ensures c.same.ensures c.if-not-same.false in
    let own = own_is c.args.asked.now.side c.get-node.result.now.position c.eq-own.ensures c.to_move.ensures in
    let fewer = below_less here proof least found own c.in-Some.is c.number-below.ensures row in
    (omega (arith, fewer, c.decreases), (c.requires.few, below_asked here proof least found own c.in-Some.is c.number-below.ensures row))

pub renew-requires-clause-below : goal.renew-requires-clause-below
renew-requires-clause-below t c =
    let found = tested c.args.proof c.get-node.result.now c.args.least c.number.ensures c.same.ensures c.if-not-same.false in
    let own = own_is c.args.asked.now.side c.get-node.result.now.position c.eq-own.ensures c.to_move.ensures in
    kids_below c.get-node.ensures c.args.proof c.args.least found own c.in-Some.is c.number-below.ensures c.grow_in-2.ensures.row c.in-Changed.is c.requires.row

pub returns-in-Changed-clause-row : goal.returns-in-Changed-clause-row
returns-in-Changed-clause-row t c row others lies =
    let found = tested c.args.proof c.get-node.result.now c.args.least c.number.ensures c.same.ensures c.if-not-same.false in
    let own = own_is c.args.asked.now.side c.get-node.result.now.position c.eq-own.ensures c.to_move.ensures in
    let renewed = c.renew.ensures in
    changed_grown c.get-node.ensures c.args.proof c.args.least found own c.in-Some.is c.number-below.ensures c.grow_in-2.ensures.row lies
    c.in-Changed.is renewed.done renewed.renewed

pub returns-in_default-grow_in-clause-row : goal.returns-in_default-grow_in-clause-row
returns-in_default-grow_in-clause-row t c row others lies =
    let found = tested c.args.proof c.get-node.result.now c.args.least c.number.ensures c.same.ensures c.if-not-same.false in
    let own = own_is c.args.asked.now.side c.get-node.result.now.position c.eq-own.ensures c.to_move.ensures in
    same_grown c.get-node.ensures c.args.proof c.args.least found own c.in-Some.is c.number-below.ensures c.grow_in-2.ensures.row lies
    c.in_default-grow_in.not-Changed
