use Rattle.std.proofs.Common.{◌<◌, length, None, is_none, arith, sym, ap, ◌∙◌}
use Rattle.std.proofs.lemmas.Bool.{and_from}
use Rattle.game_rules.proofs.Ends.{none_behind}
use Rattle.front_rules.specs.Front.{planned, verdict_at}
use Rattle.node_pool.specs.Slots.{live_slots}
use Rattle.proof_front.specs.Numbers.{leaf_numbers}
use Rattle.proof_front.proofs.Leaves.{first_and_rest, more_open, leaf_before}
use Rattle.proof_front.proofs.rows.+place_leaves.Goals as goal

pub ended_by-ended-requires : goal.ended_by-ended-requires
ended_by-ended-requires t c =
    let room = sym c.has_room.ensures ∙ c.if-not-has_room.false in
    none_behind c.args.position.now c.column-item.result c.after-next.ensures c.to_move.ensures (and_from _ _ (ap is_none c.requires.going) room)

pub returns-clause-placed : goal.returns-clause-placed
returns-clause-placed t c others owns =
    let p = c.args.position.now in
    let column = c.column-item.result in
    let split = first_and_rest c.args.order.now column c.in-len1-up.len_at_least c.column-item.is in
    let room = sym c.has_room.ensures ∙ c.if-not-has_room.false in
    let free : live_slots c.place_leaves-beside.new.pool < length c.place_leaves-beside.new.pool =
    omega (
      arith,
      c.requires.room,
      c.place_leaves-beside.ensures.live,
      c.place_leaves-beside.ensures.same,
      ap length (more_open p c.args.order.now _ column split room),
    ) in
    leaf_before p c.args.asked.now.side (planned c.args.asked.now.reach) c.args.order.now _ column c.place_leaves-beside.result c.place.result c.leaf.result
    others split room
    (c.leaf.ensures ∙ ap (λ q. record {
      position = q;
      first = None;
      next = c.place_leaves-beside.result;
      numbers =
          leaf_numbers (verdict_at c.args.asked.now.side (planned c.args.asked.now.reach) q);
    }) c.after-next.ensures)
    c.place.ensures.full.0 free c.place.ensures.within c.place.ensures.free c.place.ensures.placed c.place.ensures.count
    (c.place_leaves-beside.ensures.placed others owns)
