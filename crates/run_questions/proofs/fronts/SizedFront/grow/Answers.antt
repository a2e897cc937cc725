use Rattle.std.proofs.Common.{◌≡◌, arith, subst, sym}
use Rattle.proof_front.specs.Fronts.{IsFrontOf}
use Rattle.run_questions.specs.Remarks.{EndsAfter}
use Rattle.run_questions.proofs.Growing.{Grew, grew_none, grew_more, ends_here, ends_last}
use Rattle.run_questions.proofs.fronts.SizedFront.grow.Goals as goal

pub loop-expansions-init : goal.loop-expansions-init
loop-expansions-init c = grew_none c.args.self.now

pub loop-expansions-preserved : goal.loop-expansions-preserved
loop-expansions-preserved c =
    let went = c.grow.ensures in
    grew_more c.args.self.now c.loop-expansions.self c.loop-expansions.expansions c.loop-expansions.invariant c.grow.result went.answer c.grow.new.self
    c.in-Expanded.is c.loop-expansions-test.true (went.front c.in-Expanded.is)

pub returns-in_default : goal.returns-in_default
returns-in_default c =
    let went = c.grow.ensures in
    let grew = c.loop-expansions.invariant in
    record {
      end = ends_here c.args.self.now c.loop-expansions.self c.loop-expansions.expansions grew c.grow.result went.answer c.in_default.not-Expanded;
      front = λ root side reach is. subst (IsFrontOf root side reach c.loop-expansions.expansions c.args.self.now.slots)
          (sym (went.same c.in_default.not-Expanded)) (grew.front root side reach is);
      slots = grew.slots;
    }

pub returns : goal.returns
returns c =
    let grew = c.loop-expansions.invariant in
    let all : c.loop-expansions.expansions ≡ c.args.self.now.slots = omega arith in
    let whole = subst (Grew c.args.self.now c.loop-expansions.self) all grew in
    record {
      end = λ root side reach is. subst (EndsAfter root side reach c.args.self.now.slots) (sym grew.slots)
          (ends_last c.args.self.now c.loop-expansions.self whole root side reach is);
      front = λ root side reach is. subst (λ n. IsFrontOf root side reach n c.args.self.now.slots c.loop-expansions.self.front) (sym grew.slots)
          (whole.front root side reach is);
      slots = grew.slots;
    }
