use Rattle.std.proofs.Common.{arith}
use Rattle.run_questions.proofs.Growing.{number_word}
use Rattle.run_questions.proofs.fronts.push_digits.Goals as goal

pub returns-clause-word : goal.returns-clause-word
returns-clause-word c = number_word c.args.number (omega arith)
