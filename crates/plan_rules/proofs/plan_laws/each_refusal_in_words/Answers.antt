use Rattle.plan_rules.proofs.RefusalWords.{refusal_says, says_refusal}
use Rattle.plan_rules.proofs.plan_laws.each_refusal_in_words.Goals as goal

pub returns : goal.returns
returns c = λ p ws fault. (refusal_says p ws fault, says_refusal p ws fault)
