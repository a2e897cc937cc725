use Rattle.std.proofs.Common.{◌≡◌, ◌||◌, length}
use Rattle.game_rules.specs.Board.{Square}
use Rattle.game_rules.specs.Squares.{has_square, IsSetOf}
use Rattle.board_squares.specs.WholeColumns.{in_columns_of}
use Rattle.board_squares.proofs.mask.Mask.columns.Given as goal

abbrev pub invariant-loop-square : goal.invariant-loop-square
invariant-loop-square l = record {
  left : IsSetOf (has_square l.rest) l.rest;
  found : IsSetOf (has_square l.columns) l.columns;
  all : (u : Square) → (has_square l.columns u || in_columns_of l.rest u) ≡ in_columns_of l.fn.self u;
}

abbrev pub decreases-loop-square : goal.decreases-loop-square
decreases-loop-square l = length l.rest
