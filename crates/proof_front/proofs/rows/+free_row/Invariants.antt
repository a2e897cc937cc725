use Rattle.front_rules.specs.Front.{node_count}
use Rattle.proof_front.specs.Rows.{row_at}
use Rattle.proof_front.proofs.rows.+free_row.Given as goal

abbrev pub decreases-free_row : goal.decreases-free_row
decreases-free_row l = node_count (row_at l.pool.now l.at)
