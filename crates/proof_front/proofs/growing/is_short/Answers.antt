use Rattle.std.proofs.Common.{◌≤◌, length, sym, ◌∙◌, arith}
use Rattle.std.specs.List.{filter}
use Rattle.std.proofs.lemmas.Bool.{le-ltb}
use Rattle.std.proofs.lemmas.List.Sums.{length-filter, count_by-le-length}
use Rattle.game_rules.specs.Position.{has_room}
use Rattle.node_pool.specs.Slots.{free_slots}
use Rattle.proof_front.proofs.growing.is_short.Goals as goal

pub returns-else-room-lt-MOST_COLS : goal.returns-else-room-lt-MOST_COLS
returns-else-room-lt-MOST_COLS c =
    let p = has_room c.args.position.now in
    let enough : length (filter p c.args.order.now) ≤ free_slots c.args.pool.now =
    omega (
      arith,
      c.requires,
      length-filter p c.args.order.now,
      count_by-le-length p c.args.order.now,
      c.room-room.ensures.value,
      c.if-room-lt-MOST_COLS.false,
    ) in
    le-ltb c.room-room.result 10 c.if-room-lt-MOST_COLS.false ∙ sym (le-ltb (free_slots c.args.pool.now) (length (filter p c.args.order.now)) enough)
