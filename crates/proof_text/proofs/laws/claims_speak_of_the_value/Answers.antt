use Rattle.proof_text.proofs.Sound.{claims_say}
use Rattle.proof_text.proofs.laws.claims_speak_of_the_value.Goals as goal

pub returns-clause-white_wins : goal.returns-clause-white_wins
returns-clause-white_wins c = λ p. (claims_say p).0

pub returns-clause-white_fails : goal.returns-clause-white_fails
returns-clause-white_fails c = λ p. (claims_say p).1

pub returns-clause-black_wins : goal.returns-clause-black_wins
returns-clause-black_wins c = λ p. (claims_say p).2

pub returns-clause-black_fails : goal.returns-clause-black_fails
returns-clause-black_fails c = λ p. (claims_say p).3
