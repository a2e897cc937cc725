use Rattle.game_rules.proofs.Ends.{lines_apart}
use Rattle.game_rules.proofs.laws.at_most_one_side_has_a_line.Goals as goal

pub returns : goal.returns
returns c = lines_apart
