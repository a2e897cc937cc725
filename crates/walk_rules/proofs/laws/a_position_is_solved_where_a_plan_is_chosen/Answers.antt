use Rattle.walk_rules.proofs.Choices.{solved_is}
use Rattle.walk_rules.proofs.laws.a_position_is_solved_where_a_plan_is_chosen.Goals as goal

pub returns : goal.returns
returns c = solved_is
