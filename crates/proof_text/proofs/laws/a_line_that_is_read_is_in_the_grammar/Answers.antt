use Rattle.proof_text.proofs.Spelled.{line_read, line_spelled, one_line}
use Rattle.proof_text.proofs.laws.a_line_that_is_read_is_in_the_grammar.Goals as goal

pub returns-clause-reads : goal.returns-clause-reads
returns-clause-reads c = λ version board bytes line. (line_read version board bytes line, line_spelled version board bytes line)

pub returns-clause-once : goal.returns-clause-once
returns-clause-once c = one_line
