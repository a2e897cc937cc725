use Rattle.std.proofs.Common.{◌≡◌, ◌+◌, length, filter, drop}
use Rattle.game_rules.specs.Position.{has_room}
use Rattle.proof_front.proofs.growing.open_columns.Given as goal

abbrev pub invariant-loop-column : goal.invariant-loop-column
invariant-loop-column l = l.open + length (filter (has_room l.position) (drop l.column-index l.order)) ≡ length (filter (has_room l.position) l.order)
