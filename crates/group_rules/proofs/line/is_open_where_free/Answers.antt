use Rattle.std.proofs.Common.{sym, ◌∙◌}
use Rattle.game_rules.specs.Squares.{has_square, is_empty}
use Rattle.game_rules.proofs.Lists.{any_same}
use Rattle.plan_rules.proofs.LineSites.{open_by_empty}
use Rattle.group_rules.proofs.line.is_open_where_free.Goals as goal

pub returns : goal.returns
returns c =
    let p = c.args.p.now in
    c.meets.ensures
    ∙ any_same (has_square c.empties.result) (is_empty p) c.args.squares (λ u among. c.empties.ensures.has u)
    ∙ sym (open_by_empty p c.args.g c.args.squares c.requires.squares c.requires.free)
