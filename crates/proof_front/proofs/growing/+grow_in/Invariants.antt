use Rattle.std.proofs.Common.{Some}
use Rattle.front_rules.specs.Front.{node_count}
use Rattle.proof_front.specs.Rows.{row_at}
use Rattle.proof_front.proofs.growing.+grow_in.Given as goal

abbrev pub decreases-grow_in : goal.decreases-grow_in
decreases-grow_in l = node_count (row_at l.pool.now (Some l.at))
