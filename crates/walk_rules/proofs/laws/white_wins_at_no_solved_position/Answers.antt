use Rattle.walk_rules.proofs.Choices.{solved_going, solved_not_won}
use Rattle.walk_rules.proofs.laws.white_wins_at_no_solved_position.Goals as goal

pub returns-clause-going : goal.returns-clause-going
returns-clause-going c = solved_going

pub returns-clause-wins : goal.returns-clause-wins
returns-clause-wins c = solved_not_won
