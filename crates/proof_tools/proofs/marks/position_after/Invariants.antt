use Rattle.std.proofs.Common.{◌≡◌, drop}
use Rattle.game_rules.specs.Position.{empty_position, played}
use Rattle.proof_tools.proofs.marks.position_after.Given as goal

-- the moves that are left lead to where all of them do
abbrev pub invariant-loop-column : goal.invariant-loop-column
invariant-loop-column l = played l.position (drop l.column-index l.moves) ≡ played (empty_position l.fn.size) l.fn.moves
