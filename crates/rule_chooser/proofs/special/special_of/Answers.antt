use Rattle.std.proofs.Common.{sym, ap, ◌∙◌}
use Rattle.rule_chooser.specs.declared.groups.OpenGroup.{OpenGroup}
use Rattle.rule_chooser.proofs.SpecialGroups.{group_narrowed, group_none}
use Rattle.rule_chooser.proofs.special.special_of.Goals as goal

pub returns-then-not-within : goal.returns-then-not-within
returns-then-not-within c =
    group_none c.args.p.now c.args.kept.now c.args.empty c.has_a_board.ensures.board c.requires.kept c.args.group.now.id c.args.group.now.empty c.lowered.result
    (ap (λ (group : OpenGroup). group.empty) c.requires.group) c.lowered.ensures (sym c.within.ensures ∙ c.if-not-within.true)

pub returns : goal.returns
returns c =
    c.special_among.ensures
    ∙ group_narrowed c.args.p.now c.args.kept.now c.args.empty c.has_a_board.ensures.board c.requires.kept c.args.group.now.id c.args.playable c.args.outside
    c.intersection.result c.args.group.now.empty
    (ap (λ (group : OpenGroup). group.empty) c.requires.group) c.requires.playable c.requires.outside c.intersection.ensures
