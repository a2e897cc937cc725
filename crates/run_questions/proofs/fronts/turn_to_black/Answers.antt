use Rattle.std.proofs.Common.{Some, sym, ap, ◌∙◌, subst}
use Rattle.run_questions.specs.SizedFronts.{slots_of, IsAfterSome}
use Rattle.run_questions.proofs.Growing.{turned}
use Rattle.run_questions.proofs.fronts.turn_to_black.Goals as goal

pub returns-clause-front : goal.returns-clause-front
returns-clause-front c = λ side reach was.
    turned c.args.position.now side reach c.in-Some.sized c.restart.new.self (subst (IsAfterSome c.args.position.now side reach) c.in-Some.is was)
    c.restart.ensures.slots c.restart.ensures.front

pub returns-clause-slots : goal.returns-clause-slots
returns-clause-slots c = ap Some c.restart.ensures.slots ∙ sym (ap slots_of c.in-Some.is)
