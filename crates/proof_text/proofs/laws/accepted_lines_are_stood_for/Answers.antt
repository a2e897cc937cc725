use Rattle.proof_text.proofs.Checking.{checked_right}
use Rattle.proof_text.proofs.laws.accepted_lines_are_stood_for.Goals as goal

pub returns : goal.returns
returns c = λ s t at lines going accepted. checked_right s at lines t going accepted
