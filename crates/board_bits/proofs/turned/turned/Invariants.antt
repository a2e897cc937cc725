use Rattle.std.proofs.Common.{◌≡◌}
use Rattle.board_bits.specs.Turned.{turned}
use Rattle.board_bits.proofs.turned.turned.Given as goal

abbrev pub invariant-loop-column : goal.invariant-loop-column
invariant-loop-column l = record { so_far : l.image ≡ turned l.word l.column }
