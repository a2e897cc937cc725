use Rattle.proof_text.proofs.Refusals.{right_of_none, none_of_right, verdict_Decides}
use Rattle.proof_text.proofs.laws.what_is_right_is_not_refused.Goals as goal

pub returns-clause-lemma : goal.returns-clause-lemma
returns-clause-lemma c = λ root known l. (right_of_none root known l, λ right. none_of_right root known l right.0 right.1)

pub returns-clause-verdict : goal.returns-clause-verdict
returns-clause-verdict c = verdict_Decides
