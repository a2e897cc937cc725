use Rattle.std.proofs.Common.{map, ap}
use Rattle.plan_rules.specs.Rules.{RuleInstance, lowinverse}
use Rattle.plan_rules.specs.declared.Kind.TheVariants as kinds
use Rattle.plan_rules.proofs.Room.{room_for_all}
use Rattle.inverse_rules.proofs.lowinverse.list_lowinverse.Goals as goal

pub push_lowinverses-requires : goal.push_lowinverses-requires
push_lowinverses-requires c =
    room_for_all kinds.Lowinverse c.args.p.now (map (λ x. lowinverse x.0 x.1 x.2 x.3) c.new-list.result.items) c.has_a_board.ensures.board
    (ap (map {B = RuleInstance} (λ x. lowinverse x.0 x.1 x.2 x.3)) c.new-list.ensures)
