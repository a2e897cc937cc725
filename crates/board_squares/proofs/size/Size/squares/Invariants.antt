use Rattle.std.proofs.Common.{◌≡◌, ◌*◌, length}
use Rattle.std.specs.List.{flat_map}
use Rattle.game_rules.specs.Board.{below}
use Rattle.game_rules.specs.Squares.{squares_in_column}
use Rattle.board_squares.proofs.size.Size.squares.Given as goal

abbrev pub invariant-loop-index : goal.invariant-loop-index
invariant-loop-index l = record {
  so_far : l.squares.items ≡ flat_map (squares_in_column l.self.rows) (below l.index);
  count : length l.squares.items ≡ l.index * l.self.rows;
}
