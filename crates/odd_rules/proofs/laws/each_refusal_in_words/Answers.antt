use Rattle.odd_rules.proofs.RefusalWords.{refusal_says, says_refusal}
use Rattle.odd_rules.proofs.laws.each_refusal_in_words.Goals as goal

pub returns : goal.returns
returns c p g pairs fault = (refusal_says p g pairs fault, says_refusal p g pairs fault)
