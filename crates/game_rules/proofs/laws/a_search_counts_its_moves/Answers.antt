use Rattle.game_rules.proofs.Costs.{count_closed, count_step, wins_step}
use Rattle.game_rules.proofs.laws.a_search_counts_its_moves.Goals as goal

pub returns-clause-closed : goal.returns-clause-closed
returns-clause-closed c = count_closed

pub returns-clause-going : goal.returns-clause-going
returns-clause-going c = count_step

pub returns-clause-answer : goal.returns-clause-answer
returns-clause-answer c = wins_step
