use Rattle.proof_text.proofs.Upgraded.{first_shows, first_least, none_shows}
use Rattle.proof_text.proofs.laws.the_first_lemma_is_cited.Goals as goal

pub returns-clause-shows : goal.returns-clause-shows
returns-clause-shows c = first_shows

pub returns-clause-least : goal.returns-clause-least
returns-clause-least c = first_least

pub returns-clause-none : goal.returns-clause-none
returns-clause-none c = none_shows
