use Rattle.game_rules.proofs.Values.{value_at_end, value_step}
use Rattle.game_rules.proofs.laws.value_is_the_best_of_the_moves.Goals as goal

pub returns-clause-ended : goal.returns-clause-ended
returns-clause-ended c = value_at_end

pub returns-clause-going : goal.returns-clause-going
returns-clause-going c = value_step
