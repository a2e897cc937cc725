use Rattle.std.proofs.Common.{◌≡◌, ◌+◌, ◌++◌, length}
use Rattle.game_rules.specs.Squares.{squares_in_column}
use Rattle.board_squares.proofs.size.Size.push_column.Given as goal

abbrev pub invariant-loop-i : goal.invariant-loop-i
invariant-loop-i l = record {
  so_far : l.squares.items ≡ l.fn.squares.items ++ squares_in_column l.i l.column;
  count : length l.squares.items ≡ length l.fn.squares.items + l.i;
}
