use Rattle.std.proofs.Common.{map, ap}
use Rattle.plan_rules.specs.Rules.{RuleInstance, highinverse}
use Rattle.plan_rules.specs.declared.Kind.TheVariants as kinds
use Rattle.plan_rules.proofs.Room.{room_for_all}
use Rattle.inverse_rules.proofs.highinverse.list_highinverse.Goals as goal

pub push_highinverses-requires : goal.push_highinverses-requires
push_highinverses-requires c =
    room_for_all kinds.Highinverse c.args.p.now (map (λ x. highinverse x.0 x.1) c.new-list.result.items) c.has_a_board.ensures.board
    (ap (map {B = RuleInstance} (λ x. highinverse x.0 x.1)) c.new-list.ensures)
