use Rattle.run_questions.proofs.Growing.{Grew}
use Rattle.run_questions.proofs.fronts.SizedFront.grow.Given as goal

abbrev pub invariant-loop-expansions : goal.invariant-loop-expansions
invariant-loop-expansions l = Grew l.fn.self l.self l.expansions
