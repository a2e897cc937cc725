use Rattle.std.proofs.Common.{◌≡◌, ◌≤◌, filter, length}
use Rattle.game_rules.specs.Board.{below}
use Rattle.game_rules.specs.Position.{has_room}
use Rattle.drill_games.proofs.games.open_columns.Given as goal

abbrev pub invariant-loop-index : goal.invariant-loop-index
invariant-loop-index l = record {
  so_far : l.columns.items ≡ filter (has_room l.position) (below l.index);
  count : length l.columns.items ≤ l.index;
}
