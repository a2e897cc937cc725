use Rattle.play_text.proofs.Steps.{input_played}
use Rattle.play_text.proofs.Turns.{all_legal_played}
use Rattle.play_text.proofs.laws.legal_columns_are_played.Goals as goal

pub returns-clause-columns : goal.returns-clause-columns
returns-clause-columns c = all_legal_played

pub returns-clause-input : goal.returns-clause-input
returns-clause-input c = input_played
