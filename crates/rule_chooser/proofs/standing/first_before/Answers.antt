use Rattle.std.proofs.Common.{ap, ◌∙◌}
use Rattle.std.specs.Option.{option_map}
use Rattle.plan_rules.specs.Rules.{before}
use Rattle.rule_chooser.proofs.BlackGroups.{first_before}
use Rattle.rule_chooser.proofs.standing.first_before.Goals as goal

pub returns : goal.returns
returns c =
    ap (option_map before) (
    c.first_within.ensures
    ∙ first_before c.args.p.now c.args.kept.now c.args.empty c.has_a_board.ensures.board c.requires.kept c.as_slice.result.now c.union.result c.lowered.result
    c.intersection-squares.result
    (c.as_slice.ensures.value ∙ c.requires.ground.black) c.requires.part c.union.ensures c.lowered.ensures c.intersection-squares.ensures)
