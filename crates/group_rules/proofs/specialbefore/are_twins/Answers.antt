use Rattle.std.proofs.Common.{◌&&◌, ◌||◌, sym, ◌∙◌, subst}
use Rattle.game_rules.specs.Board.{Square}
use Rattle.game_rules.specs.Squares.{same_square}
use Rattle.game_rules.proofs.Lists.{Among, Among-at, any_from}
use Rattle.group_rules.proofs.specialbefore.are_twins.Goals as goal

pub returns-then-are_both : goal.returns-then-are_both
returns-then-are_both c =
    let among = subst (λ (twin : Square × Square). Among twin c.args.twins.now) (sym c.twin-item.is)
    (Among-at c.args.twins.now c.loop-twin.twin-index c.twin-item.result c.loop-twin-test.true) in
    sym (any_from (λ (twin : Square × Square). (same_square c.args.u twin.0 && same_square c.args.v twin.1)
    || (same_square c.args.u twin.1 && same_square c.args.v twin.0)) c.args.twins.now c.twin-item.result among
    (sym c.are_both.ensures ∙ c.if-are_both.true))
