use Rattle.follow_text.proofs.Steps.{named_serves, never_lacks}
use Rattle.follow_text.proofs.laws.the_lemma_that_is_named_serves.Goals as goal

pub returns-clause-claim : goal.returns-clause-claim
returns-clause-claim c = named_serves

pub returns-clause-answers : goal.returns-clause-answers
returns-clause-answers c root ls after claim holder n at lines right shows = never_lacks root ls after claim right holder n at lines shows
