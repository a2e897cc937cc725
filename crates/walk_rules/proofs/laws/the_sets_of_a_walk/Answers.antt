use Rattle.plan_rules.proofs.Squares.{get-Among}
use Rattle.walk_rules.specs.Walk.{walk}
use Rattle.walk_rules.proofs.Steps.{set_bound}
use Rattle.walk_rules.proofs.Given.{given_bound}
use Rattle.walk_rules.proofs.Choices.{walk_sets}
use Rattle.walk_rules.proofs.laws.the_sets_of_a_walk.Goals as goal

pub returns-clause-sets : goal.returns-clause-sets
returns-clause-sets c = λ p i set at. walk_sets p set (get-Among (walk p) i set at)

pub returns-clause-zones : goal.returns-clause-zones
returns-clause-zones c = λ p i set board at. set_bound p set board (walk_sets p set (get-Among (walk p) i set at))

pub returns-clause-given : goal.returns-clause-given
returns-clause-given c = λ p i set board at. given_bound p set board (walk_sets p set (get-Among (walk p) i set at))
