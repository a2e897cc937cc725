use Rattle.std.proofs.Common.{◌≡◌, ◌≤◌, filter, length}
use Rattle.std.specs.List.{flat_map}
use Rattle.game_rules.specs.Board.{below}
use Rattle.game_rules.specs.Squares.{is_playable, squares_in_column}
use Rattle.board_bits.proofs.position.Position.playables.Given as goal

abbrev pub invariant-loop-index : goal.invariant-loop-index
invariant-loop-index l = record {
  so_far : l.squares.items ≡ filter (is_playable l.self) (flat_map (squares_in_column l.self.rows) (below l.index));
  count : length l.squares.items ≤ l.index;
}
