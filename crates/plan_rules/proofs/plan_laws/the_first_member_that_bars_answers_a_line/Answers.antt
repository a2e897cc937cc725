use Rattle.plan_rules.proofs.RefusalWords.{answer_none, answer_first}
use Rattle.plan_rules.proofs.plan_laws.the_first_member_that_bars_answers_a_line.Goals as goal

pub returns-clause-none : goal.returns-clause-none
returns-clause-none c = answer_none

pub returns-clause-first : goal.returns-clause-first
returns-clause-first c = answer_first
