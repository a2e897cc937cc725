-- What the laws of positions and moves say, in the words of the rules.
use Rattle.std.specs.Prelude.{◌≡◌, ◌≢◌, ℕ, ◌+◌, ◌≤◌, ◌<◌, true, Some, None}
use Rattle.game_rules.specs.Board.{Square, on_board, line_length, step_of}
use Rattle.game_rules.specs.Position.{Position, board_of, man_at, has_man, height, side_to_move, after_move}
use Rattle.game_rules.specs.declared.Side.{Side}
use Rattle.game_rules.specs.declared.Way.{Way}

-- the side owns some line of the board: all its squares lie on the board and hold the side's men
pub record HasLine (p : Position) (side : Side) : Type 0 where
  pub way : Way
  pub anchor : Square
  pub on_the_board : (i : ℕ) → i < line_length p.len → on_board (board_of p) (step_of way anchor i) ≡ true
  pub owned : (i : ℕ) → i < line_length p.len → has_man p side (step_of way anchor i) ≡ true

-- every square of the board holds a man
abbrev pub IsFilled : Position → Type 0
IsFilled p = (square : Square) → on_board (board_of p) square ≡ true → man_at p square ≢ None

-- The move puts a man of the side to move on the lowest empty square of its column, and changes nothing else.
pub record DropsMan (p : Position) (column : ℕ) : Type 0 where
  pub on_the_board : on_board (board_of p) (column, height p column + 1) ≡ true
  pub was_empty : man_at p (column, height p column + 1) ≡ None
  pub filled_below : (row : ℕ) → 1 ≤ row → row ≤ height p column → man_at p (column, row) ≢ None
  pub now_held : man_at (after_move p column) (column, height p column + 1) ≡ Some (side_to_move p)
  pub others : (square : Square) → square ≢ (column, height p column + 1) → man_at (after_move p column) square ≡ man_at p square
  pub same_board : board_of (after_move p column) ≡ board_of p
