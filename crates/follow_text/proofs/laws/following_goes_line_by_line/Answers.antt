use Rattle.follow_text.proofs.Steps.{follow_stops, follow_more}
use Rattle.follow_text.proofs.laws.following_goes_line_by_line.Goals as goal

pub returns-clause-stops : goal.returns-clause-stops
returns-clause-stops c = follow_stops

pub returns-clause-more : goal.returns-clause-more
returns-clause-more c = follow_more
