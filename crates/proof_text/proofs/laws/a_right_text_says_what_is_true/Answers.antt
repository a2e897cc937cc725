use Rattle.proof_text.proofs.Sound.{true_text}
use Rattle.proof_text.proofs.laws.a_right_text_says_what_is_true.Goals as goal

pub returns : goal.returns
returns c = true_text
