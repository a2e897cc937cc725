use Rattle.threat_text.proofs.Steps.{threat_is_told}
use Rattle.threat_text.proofs.laws.the_lines_tell_the_duel.Goals as goal

pub returns : goal.returns
returns c = threat_is_told
