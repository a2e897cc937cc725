-- Sets of squares as numbers: a square is the bit of its column's eleven bits that its row says. The highest of them
-- stands above every board, so it is never set, and no line goes on from one column's top into the next column.
use Rattle.std.specs.Prelude.{ℕ, ◌+◌, ◌-◌, ◌*◌, ◌/◌, ◌%◌, ◌^◌, Bool, ◌==◌, List, sum_by}
use Rattle.std.specs.Int.{bit_at}
use Rattle.game_rules.specs.Board.{Board, Square, on_board}
use Rattle.game_rules.specs.Squares.{squares_where}

abbrev pub place_of : Square → ℕ
place_of u = 11 * u.0 + u.1 - 1

-- the square at a place
abbrev pub square_at : ℕ → Square
square_at place = (place / 11, place % 11 + 1)

abbrev pub has_bit : ℕ → Square → Bool
has_bit n u = bit_at n (place_of u) == 1

-- the squares whose bits are set
abbrev pub squares_of : ℕ → List Square
squares_of n = squares_where (has_bit n)

-- the number of a set of squares
abbrev pub word_of : List Square → ℕ
word_of us = sum_by (λ s. 2 ^ (11 * s.0 + s.1 - 1)) us

-- the number of a board's squares
abbrev pub board_word : Board → ℕ
board_word b = word_of (squares_where (on_board b))
