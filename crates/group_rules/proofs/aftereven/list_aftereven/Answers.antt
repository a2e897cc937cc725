use Rattle.std.proofs.Common.{map, ap}
use Rattle.plan_rules.specs.Rules.{aftereven}
use Rattle.plan_rules.specs.declared.Kind.TheVariants as kinds
use Rattle.plan_rules.proofs.Room.{room_for_all}
use Rattle.group_rules.proofs.aftereven.list_aftereven.Goals as goal

pub push_afterevens-requires : goal.push_afterevens-requires
push_afterevens-requires c = room_for_all kinds.Aftereven c.args.p.now (map aftereven c.new-list.result.items) c.has_a_board.ensures.board
    (ap (map aftereven) c.new-list.ensures)
