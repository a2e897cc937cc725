use Rattle.std.proofs.Common.{◌≡◌, ◌&&◌, not, true, ap, sym, ◌∙◌}
use Rattle.std.specs.List.{list_any}
use Rattle.game_rules.specs.Position.{has_man}
use Rattle.game_rules.specs.Squares.{has_square, is_empty}
use Rattle.game_rules.specs.declared.Side.TheVariants.{White}
use Rattle.game_rules.proofs.Lists.{any_same}
use Rattle.group_rules.proofs.line.is_open.Goals as goal

pub returns-then-not-meets : goal.returns-then-not-meets
returns-then-not-meets c =
    let clear : not (list_any (has_man c.args.p.now White) c.args.squares) ≡ true
    = ap not (sym (c.meets.ensures ∙ any_same (has_square c.white.result) (has_man c.args.p.now White) c.args.squares (λ u among. c.white.ensures.has u))
    ∙ c.if-not-meets.true) in
    c.meets-then-not-meets.ensures
    ∙ any_same (has_square c.empties.result) (is_empty c.args.p.now) c.args.squares (λ u among. c.empties.ensures.has u)
    ∙ ap (λ b. b && list_any (is_empty c.args.p.now) c.args.squares) (sym clear)
