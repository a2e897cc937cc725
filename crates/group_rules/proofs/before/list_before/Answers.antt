use Rattle.std.proofs.Common.{map, ap}
use Rattle.plan_rules.specs.Rules.{before}
use Rattle.plan_rules.specs.declared.Kind.TheVariants as kinds
use Rattle.plan_rules.proofs.Room.{room_for_all}
use Rattle.group_rules.proofs.before.list_before.Goals as goal

pub push_befores-requires : goal.push_befores-requires
push_befores-requires c = room_for_all kinds.Before c.args.p.now (map before c.new-list.result.items) c.has_a_board.ensures.board
    (ap (map before) c.new-list.ensures)
