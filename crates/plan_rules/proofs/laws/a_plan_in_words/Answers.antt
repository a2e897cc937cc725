use Rattle.plan_rules.proofs.Plans.{plan_gives, plan_from}
use Rattle.plan_rules.proofs.Theorems.{one_zone, zones_empty}
use Rattle.plan_rules.proofs.laws.a_plan_in_words.Goals as goal

pub returns-clause-words : goal.returns-clause-words
returns-clause-words c = λ p ws. (plan_gives p ws, plan_from p ws)

pub returns-clause-one_zone : goal.returns-clause-one_zone
returns-clause-one_zone c = one_zone

pub returns-clause-empty_zones : goal.returns-clause-empty_zones
returns-clause-empty_zones c = zones_empty
