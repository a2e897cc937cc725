use Rattle.std.proofs.Common.{◌≡◌, ◌+◌, ◌≤◌, ◌&&◌, nat_le}
use Rattle.std.specs.List.{list_any}
use Rattle.game_rules.specs.Board.{Square, below}
use Rattle.game_rules.specs.Squares.{has_square, IsSetOf}
use Rattle.group_rules.proofs.line.squares_below.Given as goal

abbrev pub invariant-loop-rows : goal.invariant-loop-rows
invariant-loop-rows l = record {
  moved : (u : Square) → 1 ≤ u.1 → has_square l.lowered u ≡ has_square l.fn.set (u.0, u.1 + l._rows);
  so_far : IsSetOf (λ u. nat_le 1 u.1 && list_any (λ i. has_square l.fn.set (u.0, u.1 + 1 + i)) (below l._rows)) l.below;
}
