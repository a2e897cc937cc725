use Rattle.game_rules.proofs.Prefix.{fault_near}
use Rattle.game_rules.proofs.text_laws.a_fault_is_near.Goals as goal

pub returns : goal.returns
returns c = fault_near
