use Rattle.std.proofs.Common.{◌≡◌, ◌≤◌, length, map, drop}
use Rattle.std.specs.Simd.Lanes.{mask_l}
use Rattle.game_rules.specs.Groups.{has_group}
use Rattle.open_groups.proofs.group_set.GroupSet.word.Given as goal

abbrev pub invariant-loop-left : goal.invariant-loop-left
invariant-loop-left l = record {
  within : l.left ≤ length l.groups;
  so_far : l.word ≡ mask_l (map (has_group l.self.groups) (drop l.left l.groups));
}

abbrev pub decreases-loop-left : goal.decreases-loop-left
decreases-loop-left l = l.left
