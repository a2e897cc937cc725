use Rattle.front_rules.specs.Front.{node_count}
use Rattle.proof_front.specs.Rows.{row_at}
use Rattle.proof_front.proofs.rows.+numbers_of.Given as goal

abbrev pub decreases-numbers_of : goal.decreases-numbers_of
decreases-numbers_of l = node_count (row_at l.pool.now l.at)
