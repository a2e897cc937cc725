use Rattle.play_text.proofs.Steps.{play_stops, play_more, fewer_lines}
use Rattle.play_text.proofs.laws.play_goes_line_by_line.Goals as goal

pub returns-clause-stops : goal.returns-clause-stops
returns-clause-stops c = play_stops (λ q. q)

pub returns-clause-more : goal.returns-clause-more
returns-clause-more c = play_more (λ q. q)

pub returns-clause-prefix : goal.returns-clause-prefix
returns-clause-prefix c = fewer_lines (λ q. q)
