use Rattle.std.proofs.Common.{◌≡◌, ℕ, ◌<◌, true}
use Rattle.game_rules.specs.Board.{on_board, step_of}
use Rattle.board_squares.proofs.line.is_line.Given as goal

abbrev pub invariant-loop-i : goal.invariant-loop-i
invariant-loop-i l = (k : ℕ) → k < l.i → on_board l.size (step_of l.way l.anchor k) ≡ true
