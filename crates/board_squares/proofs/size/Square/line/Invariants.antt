use Rattle.std.proofs.Common.{◌≡◌, map, length}
use Rattle.game_rules.specs.Board.{below, step_of}
use Rattle.board_squares.proofs.size.Square.line.Given as goal

abbrev pub invariant-loop-i : goal.invariant-loop-i
invariant-loop-i l = record {
  so_far : l.squares.items ≡ map (step_of l.way l.self) (below l.i);
  count : length l.squares.items ≡ l.i;
}
