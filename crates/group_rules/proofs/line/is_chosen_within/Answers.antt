use Rattle.std.proofs.Common.{ap, ◌∙◌, ◌&&◌}
use Rattle.game_rules.specs.Squares.{has_square}
use Rattle.game_rules.specs.Groups.{squares_of}
use Rattle.game_rules.proofs.Squares.{set_same}
use Rattle.plan_rules.proofs.LineSites.{chosen_within}
use Rattle.group_rules.proofs.line.is_chosen_within.Goals as goal

pub returns : goal.returns
returns c =
    c.within.ensures
    ∙ chosen_within (squares_of c.args.g) c.intersection.result (has_square c.args.chosen) (has_square c.args.set)
    (set_same _ _ c.intersection.result c.intersection.ensures (λ u. ap (λ b. b && has_square c.args.chosen u) (c.group_mask.ensures.has u)))
