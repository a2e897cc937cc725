use Rattle.proof_text.proofs.Spelled.{one_lemma, one_verdict, lemma_no_verdict}
use Rattle.proof_text.proofs.laws.no_spelling_is_that_of_two.Goals as goal

pub returns-clause-lemmas : goal.returns-clause-lemmas
returns-clause-lemmas c = one_lemma

pub returns-clause-verdicts : goal.returns-clause-verdicts
returns-clause-verdicts c = one_verdict

pub returns-clause-apart : goal.returns-clause-apart
returns-clause-apart c = lemma_no_verdict
