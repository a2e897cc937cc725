use Rattle.std.proofs.Common.{◌≡◌, true, take}
use Rattle.proof_lines.proofs.paths.is_same_block.Given as goal

abbrev pub invariant-loop-i : goal.invariant-loop-i
invariant-loop-i g l = l.same ≡ true → take l.i l.left ≡ take l.i l.right
