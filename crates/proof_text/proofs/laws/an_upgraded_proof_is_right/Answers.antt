use Rattle.proof_text.proofs.Upgraded.{text_upgraded, all_upgraded}
use Rattle.proof_text.proofs.laws.an_upgraded_proof_is_right.Goals as goal

pub returns-clause-text : goal.returns-clause-text
returns-clause-text c = text_upgraded

pub returns-clause-lemmas : goal.returns-clause-lemmas
returns-clause-lemmas c = all_upgraded
