use Rattle.tool_text.proofs.Marking.{move_no_better, move_worse}
use Rattle.tool_text.proofs.laws.no_move_betters_the_value.Goals as goal

pub returns-clause-best : goal.returns-clause-best
returns-clause-best c = move_no_better

pub returns-clause-worse : goal.returns-clause-worse
returns-clause-worse c = move_worse
