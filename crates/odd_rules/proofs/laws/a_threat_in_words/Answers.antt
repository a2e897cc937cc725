use Rattle.odd_rules.proofs.Theorems.{threat_words}
use Rattle.odd_rules.proofs.laws.a_threat_in_words.Goals as goal

pub returns : goal.returns
returns c = threat_words
