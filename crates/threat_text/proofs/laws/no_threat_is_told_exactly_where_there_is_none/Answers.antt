use Rattle.threat_text.proofs.Steps.{none_told}
use Rattle.threat_text.proofs.laws.no_threat_is_told_exactly_where_there_is_none.Goals as goal

pub returns : goal.returns
returns c = none_told
