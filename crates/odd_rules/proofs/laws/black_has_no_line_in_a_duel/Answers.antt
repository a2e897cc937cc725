use Rattle.odd_rules.proofs.Theorems.{duel_turns, duel_held}
use Rattle.odd_rules.proofs.laws.black_has_no_line_in_a_duel.Goals as goal

pub returns-clause-turns : goal.returns-clause-turns
returns-clause-turns c = duel_turns

pub returns-clause-held : goal.returns-clause-held
returns-clause-held c = duel_held
