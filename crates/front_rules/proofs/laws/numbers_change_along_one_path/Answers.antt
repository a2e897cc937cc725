use Rattle.front_rules.proofs.Updated.{grown_is, grown_clean, front_clean}
use Rattle.front_rules.proofs.laws.numbers_change_along_one_path.Goals as goal

pub returns : goal.returns
returns c = record { step = grown_is; clean = grown_clean; front = front_clean }
