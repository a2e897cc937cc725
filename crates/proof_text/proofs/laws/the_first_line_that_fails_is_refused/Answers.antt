use Rattle.proof_text.proofs.First.{first_refused, none_refused, refused_first}
use Rattle.proof_text.proofs.Fold.{answer_by_lines}
use Rattle.proof_text.proofs.laws.the_first_line_that_fails_is_refused.Goals as goal

pub returns-clause-first : goal.returns-clause-first
returns-clause-first c = first_refused

pub returns-clause-none : goal.returns-clause-none
returns-clause-none c = none_refused

pub returns-clause-one_by_one : goal.returns-clause-one_by_one
returns-clause-one_by_one c = answer_by_lines

pub returns-clause-only : goal.returns-clause-only
returns-clause-only c = refused_first
