use Rattle.std.proofs.Common.{◌∙◌}
use Rattle.game_rules.specs.Squares.{has_square}
use Rattle.plan_rules.specs.Rules.{some_above}
use Rattle.plan_rules.proofs.LineSites.{each_above}
use Rattle.group_rules.proofs.line.has_some_above_each.Goals as goal

pub returns : goal.returns
returns c = c.is_chosen_within.ensures ∙ each_above c.args.g c.args.chosen c.args.set c.squares_below.result (some_above (has_square c.args.set))
    c.group_anchor-line.ensures.line c.squares_below.ensures
