-- The formula gives the order, at each of the seven numbers of columns.
use Rattle.std.proofs.Common.{◌≡◌, ℕ, true, map, refl}
use Rattle.game_rules.specs.Board.{below, is_cols}
use Rattle.game_rules.specs.Cost.{centre_out}
use Rattle.game_rules.proofs.Groups.{of_cols}
use Rattle.board_bits.specs.Order.{column_at}

pub order_by_formula : (n : ℕ) → is_cols n ≡ true → map (column_at n) (below n) ≡ centre_out n
order_by_formula = of_cols (λ n. map (column_at n) (below n) ≡ centre_out n) refl refl refl refl refl refl refl
