use Rattle.follow_text.proofs.Games.{game_served}
use Rattle.follow_text.proofs.laws.a_right_proof_serves_its_side.Goals as goal

pub returns : goal.returns
returns c = game_served
