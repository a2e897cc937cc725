use Rattle.std.proofs.Common.{map, ap}
use Rattle.plan_rules.specs.Rules.{vertical}
use Rattle.plan_rules.specs.declared.Kind.TheVariants as kinds
use Rattle.plan_rules.proofs.Room.{room_for_all}
use Rattle.inverse_rules.proofs.vertical.list_vertical.Goals as goal

pub push_verticals-requires : goal.push_verticals-requires
push_verticals-requires c = room_for_all kinds.Vertical c.args.p.now (map vertical c.new-list.result.items) c.has_a_board.ensures.board
    (ap (map vertical) c.new-list.ensures)
