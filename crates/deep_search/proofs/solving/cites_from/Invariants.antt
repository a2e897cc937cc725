use Rattle.std.proofs.Common.{◌≡◌, ◌≤◌, map, filter, length}
use Rattle.game_rules.specs.Board.{below}
use Rattle.game_rules.specs.Position.{has_room}
use Rattle.proof_lines.specs.Shape.{cite_of}
use Rattle.deep_search.specs.Search.{cites_from}
use Rattle.deep_search.proofs.solving.cites_from.Given as goal

abbrev pub invariant-loop-index : goal.invariant-loop-index
invariant-loop-index l = record {
  so_far : map cite_of l.cites.items ≡ cites_from l.numbers (filter (has_room l.position) (below l.index));
  few : length l.cites.items ≤ l.index;
}
