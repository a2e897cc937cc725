use Rattle.front_rules.proofs.Settled.{root_tells, front_tells}
use Rattle.front_rules.proofs.laws.a_settled_root_tells_whether_the_side_wins.Goals as goal

pub returns-clause-closed : goal.returns-clause-closed
returns-clause-closed c = root_tells

pub returns-clause-front : goal.returns-clause-front
returns-clause-front c = front_tells
