use Rattle.front_rules.proofs.Numbers.{number_bound}
use Rattle.front_rules.proofs.laws.a_finite_number_is_at_most_the_number_of_nodes.Goals as goal

pub returns : goal.returns
returns c side row proof smallest = number_bound side row proof smallest
