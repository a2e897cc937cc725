use Rattle.std.proofs.Common.{◌≡◌, ◌++◌, map, take}
use Rattle.game_rules.specs.Groups.{group_on}
use Rattle.open_groups.proofs.group_set.GroupSet.push_along.Given as goal

abbrev pub invariant-loop-anchor : goal.invariant-loop-anchor
invariant-loop-anchor l = l.groups.items ≡ l.initial.groups.items ++ map (group_on l.self-inside.size l.way) (take l.anchor-index l.anchor-items)
