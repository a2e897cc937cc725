-- The groups that a side can still fill, each with its empty squares.
use Rattle.std.specs.Prelude.{◌&&◌, if◌then◌else◌, List, [], ◌∷◌, filter}
use Rattle.std.specs.List.{list_any}
use Rattle.game_rules.specs.Board.{Square}
use Rattle.game_rules.specs.Position.{Position, board_of}
use Rattle.game_rules.specs.Squares.{has_square, squares_where}
use Rattle.game_rules.specs.Groups.{Group, squares_of, groups_of, is_free_for}
use Rattle.game_rules.specs.declared.Side.{Side}
use Rattle.plan_rules.specs.Plan.{empty_part}
use Rattle.rule_chooser.specs.declared.groups.OpenGroup.{OpenGroup}

-- the groups of the board without a man of the other side, in group order
abbrev pub groups_for : Side → Position → List Group
groups_for side p = filter (is_free_for side p) (groups_of (board_of p))

abbrev pub open_group_at : Position → Group → OpenGroup
open_group_at p g = record { id = g; empty = squares_where (empty_part p g) }

-- a group with the empty ones of its squares, where it has none of some men
abbrev pub open_part : List Square → List Square → Group → List OpenGroup
open_part men empties g =
    if list_any (has_square men) (squares_of g) then []
    else record { id = g; empty = squares_where (λ u. has_square empties u && has_square (squares_of g) u) } ∷ []
