use Rattle.proof_text.proofs.Written.{proof_right, proof_accepted}
use Rattle.proof_text.proofs.laws.what_is_written_whole_is_right.Goals as goal

pub returns-clause-right : goal.returns-clause-right
returns-clause-right c = proof_right

pub returns-clause-accepted : goal.returns-clause-accepted
returns-clause-accepted c = proof_accepted
