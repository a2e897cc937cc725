use Rattle.std.proofs.Common.{◌≡◌, take, filter, map}
use Rattle.game_rules.specs.Groups.{is_free_for}
use Rattle.game_rules.specs.declared.Side.TheVariants.{White, Black}
use Rattle.rule_chooser.specs.OpenGroups.{open_group_at}
use Rattle.rule_chooser.proofs.groups.list_groups.Given as goal

abbrev pub invariant-loop-group : goal.invariant-loop-group
invariant-loop-group l = record {
  white : l.white.items ≡ map (open_group_at l.p) (filter (is_free_for White l.p) (take l.group-index l.group-items));
  black : l.black.items ≡ map (open_group_at l.p) (filter (is_free_for Black l.p) (take l.group-index l.group-items));
}
