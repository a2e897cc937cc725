use Rattle.proof_text.proofs.Fitting.{right_all_fit, right_verdict_fits}
use Rattle.proof_text.proofs.laws.what_is_right_has_a_spelling.Goals as goal

pub returns-clause-lemmas : goal.returns-clause-lemmas
returns-clause-lemmas c = right_all_fit

pub returns-clause-verdict : goal.returns-clause-verdict
returns-clause-verdict c = right_verdict_fits
