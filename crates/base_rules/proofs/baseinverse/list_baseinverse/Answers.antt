use Rattle.std.proofs.Common.{map, ap}
use Rattle.plan_rules.specs.Rules.{RuleInstance, baseinverse}
use Rattle.plan_rules.specs.declared.Kind.TheVariants as kinds
use Rattle.plan_rules.proofs.Room.{room_for_all}
use Rattle.base_rules.proofs.baseinverse.list_baseinverse.Goals as goal

pub push_baseinverses-requires : goal.push_baseinverses-requires
push_baseinverses-requires c =
    room_for_all kinds.Baseinverse c.args.p.now (map (λ x. baseinverse x.0 x.1) c.new-list.result.items) c.has_a_board.ensures.board
    (ap (map {B = RuleInstance} (λ x. baseinverse x.0 x.1)) c.new-list.ensures)
