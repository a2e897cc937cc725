use Rattle.std.proofs.Common.{ap, ◌∙◌}
use Rattle.std.specs.Option.{option_map}
use Rattle.plan_rules.specs.Rules.{aftereven}
use Rattle.rule_chooser.proofs.BlackGroups.{first_aftereven}
use Rattle.rule_chooser.proofs.standing.first_aftereven.Goals as goal

pub returns : goal.returns
returns c =
    ap (option_map aftereven) (
    c.first_within.ensures
    ∙ first_aftereven c.args.p.now c.args.kept.now c.args.empty c.has_a_board.ensures.board c.requires.kept c.as_slice.result.now c.squares_below.result
    c.intersection-squares.result
    (c.as_slice.ensures.value ∙ c.requires.ground.black) c.squares_below.ensures c.intersection-squares.ensures)
