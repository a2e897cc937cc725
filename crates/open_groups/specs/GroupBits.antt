-- The groups of a set by their numbers: a board's groups are numbered from 0 in group order.
use Rattle.std.specs.Prelude.{ℕ, Bool, List, map, take, drop}
use Rattle.std.specs.Simd.Lanes.{mask_l}
use Rattle.game_rules.specs.Squares.{squares_where}
use Rattle.game_rules.specs.Groups.{Group, GroupsOn, has_group, group_on, groups_of}
use Rattle.game_rules.specs.declared.Way.{Way}

-- which of its board's groups a set has, in group order
abbrev pub marks_of : GroupsOn → List Bool
marks_of set = map (has_group set.groups) (groups_of set.board)

-- the group with number n is bit n of the first word, or bit n - 128 of the second
abbrev pub group_bits : GroupsOn → ℕ × ℕ
group_bits set = (mask_l (take 128 (marks_of set)), mask_l (drop 128 (marks_of set)))

-- those of a set in one direction, by their anchors
abbrev pub those_along : GroupsOn → Way → List Group
those_along set way = map (group_on set.board way) (squares_where (λ s. has_group set.groups (group_on set.board way s)))
