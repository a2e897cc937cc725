use Rattle.run_questions.proofs.Growing.{remark_prints}
use Rattle.run_questions.proofs.fronts.remark_line.Goals as goal

pub returns-clause-remark : goal.returns-clause-remark
returns-clause-remark c = remark_prints c.args.side c.args.expansions c.args.proof c.args.disproof c.push_digits.ensures.word c.push_count.ensures.word
    c.push_count-2.ensures.word
