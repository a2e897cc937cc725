use Rattle.std.proofs.Common.{take}
use Rattle.game_rules.specs.Squares.{has_square, IsSetOf}
use Rattle.board_squares.proofs.mask.Mask.of.Given as goal

abbrev pub invariant-loop-square : goal.invariant-loop-square
invariant-loop-square l = IsSetOf (has_square (take l.square-index l.squares)) l.mask
