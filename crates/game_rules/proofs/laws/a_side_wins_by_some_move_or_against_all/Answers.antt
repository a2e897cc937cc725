use Rattle.game_rules.proofs.Values.{wins_own, wins_other}
use Rattle.game_rules.proofs.laws.a_side_wins_by_some_move_or_against_all.Goals as goal

pub returns-clause-own : goal.returns-clause-own
returns-clause-own c = wins_own

pub returns-clause-against : goal.returns-clause-against
returns-clause-against c = wins_other
