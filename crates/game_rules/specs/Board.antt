-- The board and its lines. That lines have four squares is a rule of the game. Lines of five, and which sizes a board
-- has, are this project's own choice.
use Rattle.std.specs.Prelude.{ℕ, ◌+◌, ◌-◌, Bool, true, false, ◌&&◌, ◌||◌, ◌==◌, nat_lt, nat_le, List, [], ◌∷◌, map}
use Rattle.std.specs.List.{list_all, range_with_len}
use Rattle.game_rules.specs.declared.Length.{Length}
use Rattle.game_rules.specs.declared.Length.TheVariants.{Four, Five}
use Rattle.game_rules.specs.declared.Way.{Way}
use Rattle.game_rules.specs.declared.Way.TheVariants.{H, V, U, D}

-- how many columns and rows a board has, and how many squares its lines have
pub record Board : Type 0 where
  pub cols : ℕ
  pub rows : ℕ
  pub len : Length

-- the numbers from 0 up to n
abbrev pub below : ℕ → List ℕ
below n = range_with_len 0 n

-- boards have 4 to 10 columns, and 4, 6, 8 or 10 rows, at either length
abbrev pub is_cols : ℕ → Bool
is_cols n = nat_le 4 n && nat_le n 10

abbrev pub is_rows : ℕ → Bool
is_rows n = n == 4 || n == 6 || n == 8 || n == 10

abbrev pub is_board : Board → Bool
is_board board = is_cols board.cols && is_rows board.rows

-- a square: its column, from 0 at the left, and its row, from 1 at the bottom
abbrev pub Square : Type 0
Square = ℕ × ℕ

abbrev pub on_board : Board → Square → Bool
on_board board (column, row) = nat_lt column board.cols && (nat_le 1 row && nat_le row board.rows)

-- how many squares in a line win
abbrev pub line_length : Length → ℕ
line_length Four = 4
line_length Five = 5

abbrev pub same_length : Length → Length → Bool
same_length Four Four = true
same_length Four Five = false
same_length Five Four = false
same_length Five Five = true

-- the square that lies i steps from another
abbrev pub step_of : Way → Square → ℕ → Square
step_of H (column, row) i = (column + i, row)
step_of V (column, row) i = (column, row + i)
step_of U (column, row) i = (column + i, row + i)
step_of D (column, row) i = (column + i, row - i)

-- an anchor and the next squares in one direction; below the lowest row there is no board, so a falling line never passes it
abbrev pub line_at : Length → Way → Square → List Square
line_at len way anchor = map (step_of way anchor) (below (line_length len))

-- the squares of a line of the board's length are all on the board
abbrev pub is_line : Board → Way → Square → Bool
is_line board way anchor = list_all (on_board board) (line_at board.len way anchor)

abbrev pub ways : List Way
ways = H ∷ V ∷ U ∷ D ∷ []
