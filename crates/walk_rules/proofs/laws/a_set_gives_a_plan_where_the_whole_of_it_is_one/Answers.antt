use Rattle.walk_rules.proofs.Given.{given_is}
use Rattle.walk_rules.proofs.laws.a_set_gives_a_plan_where_the_whole_of_it_is_one.Goals as goal

pub returns : goal.returns
returns c = given_is
