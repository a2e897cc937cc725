use Rattle.game_rules.proofs.Ends.{white_end, black_end, draw_end}
use Rattle.game_rules.proofs.laws.a_game_ends_by_a_line_or_a_full_board.Goals as goal

pub returns-clause-won : goal.returns-clause-won
returns-clause-won c = λ board columns p along. white_end p

pub returns-clause-lost : goal.returns-clause-lost
returns-clause-lost c = black_end

pub returns-clause-drawn : goal.returns-clause-drawn
returns-clause-drawn c = draw_end
