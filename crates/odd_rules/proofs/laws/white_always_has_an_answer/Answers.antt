use Rattle.odd_rules.proofs.Theorems.{threat_answers}
use Rattle.odd_rules.proofs.laws.white_always_has_an_answer.Goals as goal

pub returns : goal.returns
returns c = threat_answers
