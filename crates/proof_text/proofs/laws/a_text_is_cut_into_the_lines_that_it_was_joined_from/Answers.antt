use Rattle.proof_text.proofs.Pieces.{cut_lines, whole_lines}
use Rattle.proof_text.proofs.laws.a_text_is_cut_into_the_lines_that_it_was_joined_from.Goals as goal

pub returns-clause-pieces : goal.returns-clause-pieces
returns-clause-pieces c = cut_lines

pub returns-clause-lines : goal.returns-clause-lines
returns-clause-lines c = whole_lines
