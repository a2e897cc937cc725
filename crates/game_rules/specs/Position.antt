-- Positions and moves, by the rules of the game. A position is kept as the men of each column, read upwards, so that
-- no man can hang over an empty square. White's and Black's squares are what `has_man` says.
use Rattle.std.specs.Prelude.{ℕ, zero, suc, ◌+◌, ◌-◌, ◌%◌, ◌≤◌, Bool, true, false, not, ◌&&◌, ◌==◌, nat_lt, if◌then◌else◌, List, [], ◌∷◌, ◌++◌, map, length, replicate, sum_by, filter, Option, Some, None, is_none, slice_get, slice_set, slice_index_or, All}
use Rattle.std.specs.List.{list_all, list_any}
use Rattle.std.specs.Cmp.Lexicographic.{pointwise}
use Rattle.game_rules.specs.Board.{Board, Square, below, line_at, is_line, same_length, ways}
use Rattle.game_rules.specs.declared.Length.{Length}
use Rattle.game_rules.specs.declared.Side.{Side}
use Rattle.game_rules.specs.declared.Side.TheVariants.{White, Black}
use Rattle.game_rules.specs.declared.End.{End}
use Rattle.game_rules.specs.declared.End.TheVariants as ends
use Rattle.game_rules.specs.declared.Way.{Way}

-- how many rows the board has, how many squares its lines have, and the men of each of its columns from the bottom up
pub record Position : Type 0 where
  pub rows : ℕ
  pub len : Length
  pub columns : List (List Side)

abbrev pub board_of : Position → Board
board_of p = record { cols = length p.columns; rows = p.rows; len = p.len }

-- the position before the first move
abbrev pub empty_position : Board → Position
empty_position board = record { rows = board.rows; len = board.len; columns = replicate board.cols [] }

abbrev pub other : Side → Side
other White = Black
other Black = White

abbrev pub same_side : Side → Side → Bool
same_side White White = true
same_side White Black = false
same_side Black White = false
same_side Black Black = true

-- the men of a column; a column that isn't on the board has none
abbrev pub men_in : Position → ℕ → List Side
men_in p column = slice_index_or p.columns column []

abbrev pub height : Position → ℕ → ℕ
height p column = length (men_in p column)

-- the man at a row of a column, from 1 at the bottom
abbrev pub man_in : List Side → ℕ → Option Side
man_in men zero = None
man_in men (suc i) = slice_get men i

abbrev pub man_at : Position → Square → Option Side
man_at p (column, row) = man_in (men_in p column) row

abbrev pub is_man : Side → Option Side → Bool
is_man side None = false
is_man side (Some man) = same_side side man

-- the set of a side's squares
abbrev pub has_man : Position → Side → Square → Bool
has_man p side square = is_man side (man_at p square)

abbrev pub man_count : Position → ℕ
man_count p = sum_by length p.columns

-- White moves where the number of men is even, also after the end of the game
abbrev pub side_to_move : Position → Side
side_to_move p = if (man_count p % 2) == 0 then White else Black

-- a column of the board that isn't full
abbrev pub has_room : Position → ℕ → Bool
has_room p column = nat_lt column (length p.columns) && nat_lt (height p column) p.rows

-- the lowest empty square of a column
abbrev pub lowest_empty : Position → ℕ → Option Square
lowest_empty p column = if has_room p column then Some (column, height p column + 1) else None

-- how many squares are empty
abbrev pub empty_count : Position → ℕ
empty_count p = sum_by (λ men. p.rows - length men) p.columns

-- the side to move drops a man into the column
abbrev pub after_move : Position → ℕ → Position
after_move p column = record p { columns = slice_set p.columns column (men_in p column ++ side_to_move p ∷ []) }

-- a line of the board whose squares are all the side's, by its anchor and its direction
abbrev pub has_line_at : Position → Side → Way → Square → Bool
has_line_at p side way anchor = is_line (board_of p) way anchor && list_all (has_man p side) (line_at p.len way anchor)

abbrev pub has_line_in_column : Position → Side → Way → ℕ → Bool
has_line_in_column p side way column = list_any (λ i. has_line_at p side way (column, i + 1)) (below p.rows)

abbrev pub has_line_along : Position → Side → Way → Bool
has_line_along p side way = list_any (has_line_in_column p side way) (below (length p.columns))

-- the side has a line
abbrev pub has_line : Position → Side → Bool
has_line p side = list_any (has_line_along p side) ways

-- no column has room
abbrev pub is_full : Position → Bool
is_full p = not (list_any (has_room p) (below (length p.columns)))

-- how the game has ended, if it has
abbrev pub end_of : Position → Option End
end_of p = if has_line p White then Some ends.White else (if has_line p Black then Some ends.Black else (if is_full p then Some ends.Draw else None))

-- a move may be made where the game goes on and the column has room
abbrev pub is_legal : Position → ℕ → Bool
is_legal p column = is_none (end_of p) && has_room p column

-- the position of a list of moves, where each is legal at its turn
abbrev pub played : Position → List ℕ → Option Position
played p [] = Some p
played p (column ∷ columns) = if is_legal p column then played (after_move p column) columns else None

-- no column holds more men than the board has rows
abbrev pub IsStacked : Position → Type 0
IsStacked p = All (λ men. length men ≤ p.rows) p.columns

-- the columns that have room, from the left, and the positions after a move into each
abbrev pub open_columns : Position → List ℕ
open_columns p = filter (has_room p) (below (length p.columns))

abbrev pub moved : Position → List Position
moved p = map (after_move p) (open_columns p)

-- whether two positions are the same: their rows, the length of their lines, and each column man by man
abbrev pub same_position : Position → Position → Bool
same_position p q = p.rows == q.rows && same_length p.len q.len && pointwise (pointwise same_side) p.columns q.columns
