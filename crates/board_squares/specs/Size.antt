-- Which numbers are a size, and what is wrong with others.
use Rattle.std.specs.Prelude.{ℕ, ◌==◌, if◌then◌else◌, Option, Some, None, Result, Ok, Err}
use Rattle.game_rules.specs.Board.{Board, is_cols, is_rows}
use Rattle.game_rules.specs.declared.Length.{Length}
use Rattle.game_rules.specs.declared.Length.TheVariants.{Four, Five}
use Rattle.board_squares.specs.declared.size.SizeFault.{SizeFault}
use Rattle.board_squares.specs.declared.size.SizeFault.TheVariants.{BadCols, BadRows, BadLen}

-- the length of lines with so many squares
abbrev pub length_of : ℕ → Option Length
length_of n = if n == 4 then Some Four else (if n == 5 then Some Five else None)

abbrev pub of_length : ℕ → ℕ → Option Length → Result Board SizeFault
of_length cols rows (Some len) = Ok (record { cols = cols; rows = rows; len = len })
of_length cols rows None = Err BadLen

-- the board with these numbers of columns, of rows and of squares in a line, or the first number that no board has
abbrev pub sized : ℕ → ℕ → ℕ → Result Board SizeFault
sized cols rows len = if is_cols cols then (if is_rows rows then of_length cols rows (length_of len) else Err BadRows) else Err BadCols
