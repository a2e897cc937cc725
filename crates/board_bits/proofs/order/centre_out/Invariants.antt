use Rattle.std.proofs.Common.{◌≡◌, map, length}
use Rattle.game_rules.specs.Board.{below}
use Rattle.board_bits.specs.Order.{column_at}
use Rattle.board_bits.proofs.order.centre_out.Given as goal

abbrev pub invariant-loop-place : goal.invariant-loop-place
invariant-loop-place l = record {
  so_far : l.order.items ≡ map (column_at l.size.cols) (below l.place);
  count : length l.order.items ≡ l.place;
}
