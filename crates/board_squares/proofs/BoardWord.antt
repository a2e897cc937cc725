-- The word of a board's squares, at each of the 56 boards.
use Rattle.std.proofs.Common.{◌≡◌, ℕ, ◌-◌, ◌*◌, ◌/◌, ◌%◌, ◌^◌, true, ◌==◌, refl}
use Rattle.std.proofs.lemmas.Bool.{eqb-true}
use Rattle.game_rules.specs.Board.{Board, is_board}
use Rattle.game_rules.specs.Squares.{squares_where, squares_of_board}
use Rattle.game_rules.specs.declared.Length.{Length}
use Rattle.game_rules.proofs.Groups.{on_each_size, passes_at_sizes}
use Rattle.board_squares.specs.Words.{board_word}
use Rattle.board_squares.specs.declared.mask.TheConstants.{LOWEST_SQUARES}

abbrev pub filled_columns : ℕ → ℕ → ℕ
filled_columns cols rows = (1 * 2 ^ rows % 2 ^ 128 - 1) * (LOWEST_SQUARES / 2 ^ (11 * (10 - cols)))

at_each : (len : Length) → passes_at_sizes (λ b. filled_columns b.cols b.rows == board_word b) len ≡ true
unfolding squares_where squares_of_board
at_each len = refl

pub board_filled : (b : Board) → is_board b ≡ true → filled_columns b.cols b.rows ≡ board_word b
board_filled b is = eqb-true (filled_columns b.cols b.rows) (board_word b) (on_each_size (λ b. filled_columns b.cols b.rows == board_word b) at_each b is)
