use Rattle.plan_rules.proofs.Theorems.{duel_turns, duel_no_line}
use Rattle.plan_rules.proofs.laws.white_has_no_line_in_a_duel.Goals as goal

pub returns-clause-turns : goal.returns-clause-turns
returns-clause-turns c = duel_turns

pub returns-clause-none : goal.returns-clause-none
returns-clause-none c = duel_no_line
