use Rattle.std.proofs.Common.{map, ap}
use Rattle.plan_rules.specs.Rules.{RuleInstance, baseclaim}
use Rattle.plan_rules.specs.declared.Kind.TheVariants as kinds
use Rattle.plan_rules.proofs.Room.{room_for_all}
use Rattle.base_rules.proofs.baseclaim.list_baseclaim.Goals as goal

pub push_baseclaims-requires : goal.push_baseclaims-requires
push_baseclaims-requires c =
    room_for_all kinds.Baseclaim c.args.p.now (map (λ x. baseclaim x.0 x.1 x.2) c.new-list.result.items) c.has_a_board.ensures.board
    (ap (map {B = RuleInstance} (λ x. baseclaim x.0 x.1 x.2)) c.new-list.ensures)
