use Rattle.std.proofs.Common.{arith}
use Rattle.std.proofs.lemmas.List.Sums.{length-filter, count_by-le-length}
use Rattle.game_rules.specs.Position.{has_room}
use Rattle.proof_front.proofs.growing.open_columns.Goals as goal

pub overflow_add-open : goal.overflow_add-open
overflow_add-open c =
    let p = has_room c.args.position.now in
    omega (arith, c.loop-column.invariant, length-filter p c.args.order.now, count_by-le-length p c.args.order.now)
