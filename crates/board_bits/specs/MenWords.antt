-- The men of a position apart from its board: a word of each side's men. A column's men are read by their number, which
-- is that of its bits, and by Black's bits.
use Rattle.std.specs.Prelude.{ℕ, ◌+◌, ◌*◌, ◌/◌, ◌^◌, ◌==◌, if◌then◌else◌, List, map, bit_and, bit_or}
use Rattle.std.specs.Int.{bit_at}
use Rattle.std.specs.Int.RustNames.{count_ones}
use Rattle.game_rules.specs.Board.{Board, below}
use Rattle.game_rules.specs.Position.{Position, has_man}
use Rattle.game_rules.specs.Squares.{squares_where}
use Rattle.game_rules.specs.declared.Side.{Side}
use Rattle.game_rules.specs.declared.Side.TheVariants.{White, Black}
use Rattle.board_squares.specs.Words.{word_of}

-- White's word and Black's
abbrev pub Words : Type 0
Words = ℕ × ℕ

-- the word of a side's men
abbrev pub side_word : Position → Side → ℕ
side_word p side = word_of (squares_where (has_man p side))

-- how many men a column has
abbrev pub height_in : ℕ → ℕ → ℕ
height_in men column = count_ones (bit_and (men / 2 ^ (11 * column)) 2047)

-- whose man it is that has this bit
abbrev pub side_in : ℕ → ℕ → Side
side_in black place = if bit_at black place == 1 then Black else White

abbrev pub column_in : ℕ → ℕ → ℕ → List Side
column_in white black column = map (λ i. side_in black (11 * column + i)) (below (height_in (bit_or white black) column))

-- the position on a board whose men have these words
abbrev pub position_in : Board → Words → Position
position_in board words = record { rows = board.rows; len = board.len; columns = map (column_in words.0 words.1) (below board.cols) }
