-- The men of a position as one number. A column's men are eleven bits of it: ten of them count 2,046 at most, so no column
-- reaches into the next. From the bottom up White's man counts one and Black's two, and what stands on a man counts double.
use Rattle.std.specs.Prelude.{◌≡◌, ℕ, zero, suc, ◌+◌, ◌*◌, ◌/◌, ◌%◌, ◌^◌, ◌==◌, if◌then◌else◌, List, [], ◌∷◌, map}
use Rattle.game_rules.specs.Board.{Board, below}
use Rattle.game_rules.specs.Position.{Position, board_of}
use Rattle.game_rules.specs.declared.Side.{Side}
use Rattle.game_rules.specs.declared.Side.TheVariants.{White, Black}
use Rattle.board_bits.specs.MenWords.{side_word}

abbrev pub men_number : Position → ℕ
men_number p = side_word p White + 2 * side_word p Black

-- at most so many men, the lowest first: what they count is odd where White's man is the lowest
abbrev pub men_read : ℕ → ℕ → List Side
men_read zero count = []
men_read (suc most) zero = []
men_read (suc most) (suc count) = (if (count % 2) == 0 then White else Black) ∷ men_read most (count / 2)

abbrev pub column_read : ℕ → ℕ → List Side
column_read number column = men_read 10 (number / 2 ^ (11 * column) % 2 ^ 11)

-- the position on a board whose men have this number
abbrev pub position_read : Board → ℕ → Position
position_read board number = record { rows = board.rows; len = board.len; columns = map (column_read number) (below board.cols) }

-- the number is that of the position on this board that is read from it
pub record AreMen (board : Board) (number : ℕ) : Type 0 where
  pub board_is : board_of (position_read board number) ≡ board
  pub number_back : men_number (position_read board number) ≡ number
