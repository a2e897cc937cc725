use Rattle.drill_games.proofs.Legal.{many, all_legal}
use Rattle.drill_games.proofs.games.each_game_comes_by_legal_moves.Goals as goal

pub returns-clause-count : goal.returns-clause-count
returns-clause-count c = many

pub returns-clause-legal : goal.returns-clause-legal
returns-clause-legal c = all_legal
