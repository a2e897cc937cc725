use Rattle.std.proofs.Common.{ap, ◌∙◌}
use Rattle.game_rules.specs.Groups.{GroupsOn, groups_of}
use Rattle.open_groups.proofs.Numbers.{both_words}
use Rattle.open_groups.proofs.group_set.GroupSet.bits.Goals as goal

pub returns : goal.returns
returns c =
    both_words c.args.self.now c.as_slice-groups.result.now c.min-first.result c.word.result c.word-2.result
    (c.as_slice-groups.ensures.value ∙ c.groups-groups.ensures ∙ ap (λ (s : GroupsOn). groups_of s.board) c.self.view_is)
    c.min-first.ensures c.word.ensures c.word-2.ensures
