use Rattle.std.proofs.Common.{sym, ap, ◌∙◌}
use Rattle.front_rules.specs.Front.{planned}
use Rattle.walk_rules.proofs.Choices.{solved_is}
use Rattle.proof_front.proofs.judging.Asked.is_planned.Goals as goal

pub returns-then-self-gt0 : goal.returns-then-self-gt0
returns-then-self-gt0 c = c.find.ensures.found
    ∙ (sym (solved_is c.args.position.now c.args.self.now.reach) ∙ ap (λ side. planned c.args.self.now.reach side c.args.position.now) (sym c.in-White.is))
