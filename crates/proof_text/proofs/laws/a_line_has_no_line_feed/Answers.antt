use Rattle.proof_text.proofs.Spelled.{line_bytes}
use Rattle.proof_text.proofs.Pieces.{feedless_high}
use Rattle.proof_text.proofs.Fitting.{lemma_length, verdict_length, line_short}
use Rattle.proof_text.proofs.laws.a_line_has_no_line_feed.Goals as goal

pub returns-clause-feed : goal.returns-clause-feed
returns-clause-feed c = λ cols bytes line h. feedless_high bytes (line_bytes cols bytes line h)

pub returns-clause-short : goal.returns-clause-short
returns-clause-short c = line_short

pub returns-clause-lemma : goal.returns-clause-lemma
returns-clause-lemma c = lemma_length

pub returns-clause-verdict : goal.returns-clause-verdict
returns-clause-verdict c = verdict_length
