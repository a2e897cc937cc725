use Rattle.follow_text.proofs.Played.{legal_input_played}
use Rattle.follow_text.proofs.laws.a_right_proof_is_played_to_its_end.Goals as goal

pub returns : goal.returns
returns c = legal_input_played
