use Rattle.threat_text.proofs.Steps.{input_played}
use Rattle.threat_text.proofs.Turns.{all_legal_played}
use Rattle.threat_text.proofs.laws.legal_columns_are_played.Goals as goal

pub returns-clause-columns : goal.returns-clause-columns
returns-clause-columns c = λ p g pairs at columns board is. all_legal_played p g pairs board is at columns

pub returns-clause-input : goal.returns-clause-input
returns-clause-input c = input_played
