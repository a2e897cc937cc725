use Rattle.std.proofs.Common.{◌+◌, ◌∙◌}
use Rattle.game_rules.specs.Squares.{has_square}
use Rattle.plan_rules.proofs.LineSites.{each_above}
use Rattle.group_rules.proofs.line.has_each_above.Goals as goal

pub returns : goal.returns
returns c = c.is_chosen_within.ensures ∙ each_above c.args.g c.args.chosen c.args.set c.lowered.result (λ u. has_square c.args.set (u.0, u.1 + 1))
    c.group_anchor-line.ensures.line c.lowered.ensures
