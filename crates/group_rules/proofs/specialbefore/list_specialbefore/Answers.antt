use Rattle.std.proofs.Common.{map, ap}
use Rattle.plan_rules.specs.Rules.{RuleInstance, specialbefore}
use Rattle.plan_rules.specs.declared.Kind.TheVariants as kinds
use Rattle.plan_rules.proofs.Room.{room_for_all}
use Rattle.group_rules.proofs.specialbefore.list_specialbefore.Goals as goal

pub push_specialbefores-requires : goal.push_specialbefores-requires
push_specialbefores-requires c =
    room_for_all kinds.Specialbefore c.args.p.now (map (λ x. specialbefore x.0 x.1 x.2) c.new-list.result.items) c.has_a_board.ensures.board
    (ap (map {B = RuleInstance} (λ x. specialbefore x.0 x.1 x.2)) c.new-list.ensures)
