use Rattle.proof_text.proofs.Sound.{true_lemmas, true_verdict}
use Rattle.proof_text.proofs.laws.right_lemmas_claim_what_is_true.Goals as goal

pub returns-clause-lemmas : goal.returns-clause-lemmas
returns-clause-lemmas c = true_lemmas

pub returns-clause-verdict : goal.returns-clause-verdict
returns-clause-verdict c = true_verdict
