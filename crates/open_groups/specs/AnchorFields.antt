-- The fields of a set of groups, and that its groups determine them.
use Rattle.std.specs.Prelude.{◌≡◌, Bool, true, List, [], map, slice_index_or}
use Rattle.std.proofs.Common.{ap}
use Rattle.game_rules.specs.Board.{Board, Square, is_board, ways}
use Rattle.game_rules.specs.Squares.{has_square, squares_where}
use Rattle.game_rules.specs.Groups.{Group, GroupsOn, rank, has_group, group_on, groups_where}
use Rattle.game_rules.specs.declared.Way.{Way}
use Rattle.open_groups.specs.declared.group_set.GroupSet.TheInside.{Inside}

-- the anchors that are kept for one direction
abbrev pub anchors_along : List (List Square) → Way → List Square
anchors_along anchors way = slice_index_or anchors (rank way) []

abbrev pub is_anchored : List (List Square) → Group → Bool
is_anchored anchors g = has_square (anchors_along anchors g.way) g.anchor

-- the groups of a board whose anchors are kept
unfoldable pub groups_anchored : Board → List (List Square) → List Group
groups_anchored board anchors = groups_where board (is_anchored anchors)

abbrev pub set_anchored : Board → List (List Square) → GroupsOn
set_anchored board anchors = record { board = board; groups = groups_anchored board anchors }

-- the anchors of a set of groups, direction by direction
unfoldable pub anchors_of : GroupsOn → List (List Square)
anchors_of set = map (λ way. squares_where (λ s. has_group set.groups (group_on set.board way s))) ways

-- the size is a board's, and the groups give the anchors back
pub record IsSound (a : Inside) : Type 0 where
  pub board : is_board a.size ≡ true
  pub determined : anchors_of (set_anchored a.size a.anchors) ≡ a.anchors

pub groups_determine_the_fields : (a : Inside) → IsSound a → record { size = a.size; anchors = anchors_of (set_anchored a.size a.anchors) } ≡ a
groups_determine_the_fields a sound = ap (λ anchors. record a { anchors = anchors }) sound.determined
