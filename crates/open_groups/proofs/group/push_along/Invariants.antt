use Rattle.std.proofs.Common.{◌≡◌, ◌++◌, map, filter, take}
use Rattle.game_rules.specs.Board.{is_line}
use Rattle.game_rules.specs.Groups.{group_on}
use Rattle.open_groups.proofs.group.push_along.Given as goal

abbrev pub invariant-loop-anchor : goal.invariant-loop-anchor
invariant-loop-anchor l = l.groups.items ≡ l.fn.groups.items ++ map (group_on l.size l.way) (filter (is_line l.size l.way) (take l.anchor-index l.squares))
