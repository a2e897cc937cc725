use Rattle.plan_rules.proofs.Even.{calm_even}
use Rattle.plan_rules.proofs.laws.a_calm_zone_holds_an_even_number_of_men.Goals as goal

pub returns : goal.returns
returns c = calm_even
