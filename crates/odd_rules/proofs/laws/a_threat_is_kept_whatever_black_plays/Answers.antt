use Rattle.odd_rules.proofs.Theorems.{threat_stands}
use Rattle.odd_rules.proofs.laws.a_threat_is_kept_whatever_black_plays.Goals as goal

pub returns : goal.returns
returns c = threat_stands
