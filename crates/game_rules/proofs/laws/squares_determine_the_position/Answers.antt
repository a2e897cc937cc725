use Rattle.game_rules.proofs.Ends.{same_by_squares}
use Rattle.game_rules.proofs.laws.squares_determine_the_position.Goals as goal

pub returns : goal.returns
returns c = same_by_squares
