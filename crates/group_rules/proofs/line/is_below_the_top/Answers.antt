use Rattle.std.proofs.Common.{◌&&◌, ◌+◌, nat_le, nat_lt, ap, ◌∙◌}
use Rattle.game_rules.specs.Squares.{has_square, is_empty}
use Rattle.game_rules.specs.Groups.{squares_of}
use Rattle.game_rules.proofs.Squares.{set_same}
use Rattle.plan_rules.proofs.LineSites.{chosen_within, each_of_same, below_top}
use Rattle.group_rules.proofs.line.is_below_the_top.Goals as goal

pub returns : goal.returns
returns c =
    let us = squares_of c.args.g in
    c.within.ensures
    ∙ chosen_within us c.intersection.result (has_square c.empties-empties.result) (has_square c.lowered.result)
    (set_same _ _ c.intersection.result c.intersection.ensures (λ u. ap (λ b. b && has_square c.empties-empties.result u) (c.requires.has u)))
    ∙ each_of_same _ (is_empty c.args.p.now) _ (λ u. nat_lt u.1 c.args.p.now.rows) us (λ u among. c.empties-empties.ensures.has u)
    (λ u among empty. c.lowered.ensures.has u ∙ ap (λ b. nat_le 1 u.1 && b) (c.empties-empties.ensures.has (u.0, u.1 + 1)) ∙ below_top c.args.p.now u empty)
