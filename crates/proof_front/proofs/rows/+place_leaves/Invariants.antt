use Rattle.std.proofs.Common.{length}
use Rattle.proof_front.proofs.rows.+place_leaves.Given as goal

abbrev pub decreases-place_leaves : goal.decreases-place_leaves
decreases-place_leaves l = length l.order.now
