use Rattle.game_rules.proofs.Ends.{stacked_along}
use Rattle.game_rules.proofs.laws.columns_stay_within_the_rows.Goals as goal

pub returns : goal.returns
returns c = stacked_along
