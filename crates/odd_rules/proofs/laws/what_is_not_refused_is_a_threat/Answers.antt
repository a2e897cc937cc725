use Rattle.odd_rules.proofs.Refusals.{refusal_is}
use Rattle.odd_rules.proofs.laws.what_is_not_refused_is_a_threat.Goals as goal

pub returns : goal.returns
returns c = refusal_is
