-- Groups: the lines of a board, each once, in group order. A group has the length of the board's lines.
use Rattle.std.specs.Prelude.{◌≡◌, ◌⊎◌, ℕ, ◌<◌, Bool, ◌&&◌, ◌==◌, not, List, map, filter}
use Rattle.std.specs.List.{list_any, flat_map}
use Rattle.game_rules.specs.Board.{Board, Square, line_at, is_line, same_length, ways}
use Rattle.game_rules.specs.Position.{Position, other, has_man}
use Rattle.game_rules.specs.Squares.{same_square, squares_of_board}
use Rattle.game_rules.specs.Squares.{Precedes as SquarePrecedes}
use Rattle.game_rules.specs.declared.Length.{Length}
use Rattle.game_rules.specs.declared.Side.{Side}
use Rattle.game_rules.specs.declared.Way.{Way}
use Rattle.game_rules.specs.declared.Way.TheVariants.{H, V, U, D}

-- a group of squares in a line: its anchor, its direction, and how many squares it has
pub record Group : Type 0 where
  pub anchor : Square
  pub way : Way
  pub len : Length

abbrev pub squares_of : Group → List Square
squares_of g = line_at g.len g.way g.anchor

-- the group has the length of the board's lines, and its squares are all on the board
abbrev pub lies_on : Board → Group → Bool
lies_on board g = same_length g.len board.len && is_line board g.way g.anchor

-- the place of a direction in group order
abbrev pub rank : Way → ℕ
rank H = 0
rank V = 1
rank U = 2
rank D = 3

abbrev pub same_group : Group → Group → Bool
same_group g h = same_square g.anchor h.anchor && (rank g.way == rank h.way) && same_length g.len h.len

-- the list has the group
abbrev pub has_group : List Group → Group → Bool
has_group gs g = list_any (same_group g) gs

-- the group of the board's length with this anchor and direction
abbrev pub group_on : Board → Way → Square → Group
group_on board way anchor = record { anchor = anchor; way = way; len = board.len }

-- the groups of one direction, by their anchors in square order
abbrev pub groups_along : Board → Way → List Group
groups_along board way = map (group_on board way) (filter (is_line board way) (squares_of_board board))

-- the groups of a board in group order: by direction, then by the anchor's column, then by its row
unfoldable pub groups_of : Board → List Group
groups_of board = flat_map (groups_along board) ways

-- one group stands before another in group order
abbrev pub Precedes : Group → Group → Type 0
Precedes g h = (rank g.way < rank h.way) ⊎ ((g.way ≡ h.way) × SquarePrecedes g.anchor h.anchor)

-- no square of the group holds a man of the other side
abbrev pub is_free_for : Side → Position → Group → Bool
is_free_for side p g = not (list_any (has_man p (other side)) (squares_of g))

-- the groups of a board that pass a test, in group order
unfoldable pub groups_where : Board → (Group → Bool) → List Group
groups_where board test = filter test (groups_of board)

-- some groups of a board
pub record GroupsOn : Type 0 where
  pub board : Board
  pub groups : List Group

-- The groups are the set of those of the board that pass the test: they stand in group order, each group once, and are
-- exactly those.
pub record IsGroupSetOf (board : Board) (test : Group → Bool) (set : GroupsOn) : Type 0 where
  pub on : set.board ≡ board
  pub in_order : set.groups ≡ groups_where board test
  pub has : (g : Group) → has_group set.groups g ≡ test g
