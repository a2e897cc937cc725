use Rattle.proof_text.proofs.Whole.{whole_accepted, right_accepted, accepted_right, named_accepted}
use Rattle.proof_text.proofs.laws.a_text_is_accepted_exactly_where_it_is_right.Goals as goal

pub returns-clause-any : goal.returns-clause-any
returns-clause-any c = λ bytes v count. (accepted_right bytes v count, λ right. named_accepted right.0 bytes v count right.1)

pub returns-clause-own : goal.returns-clause-own
returns-clause-own c = λ version bytes v count. (whole_accepted version bytes v count, right_accepted version bytes v count)
