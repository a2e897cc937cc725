use Rattle.odd_rules.proofs.Theorems.{threat_wins, threat_value}
use Rattle.odd_rules.proofs.laws.a_threat_wins.Goals as goal

pub returns-clause-wins : goal.returns-clause-wins
returns-clause-wins c = threat_wins

pub returns-clause-value : goal.returns-clause-value
returns-clause-value c = threat_value
