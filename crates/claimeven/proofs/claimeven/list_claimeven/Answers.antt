use Rattle.std.proofs.Common.{map, ap}
use Rattle.plan_rules.specs.Rules.{claimeven}
use Rattle.plan_rules.specs.declared.Kind.TheVariants as kinds
use Rattle.plan_rules.proofs.Room.{room_for_all}
use Rattle.claimeven.proofs.claimeven.list_claimeven.Goals as goal

pub push_claimevens-requires : goal.push_claimevens-requires
push_claimevens-requires c = room_for_all kinds.Claimeven c.args.p.now (map claimeven c.new-list.result.items) c.has_a_board.ensures.board
    (ap (map claimeven) c.new-list.ensures)
