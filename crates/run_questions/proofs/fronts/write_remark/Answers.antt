use Rattle.std.proofs.Common.{Some, is_ok, sym, ap, ◌∙◌, subst}
use Rattle.device_rules.specs.Devices.{AppendsPrefix}
use Rattle.proof_front.specs.Fronts.{IsFrontOf}
use Rattle.run_questions.specs.SizedFronts.{slots_of, IsAfter}
use Rattle.run_questions.proofs.Growing.{remark_stands}
use Rattle.run_questions.proofs.fronts.write_remark.Goals as goal

pub returns-clause-remarks : goal.returns-clause-remarks
returns-clause-remarks g c = λ root reach is.
    let sized = c.in-Some.sized in
    let own : IsFrontOf root c.args.side reach 0 sized.slots sized.front = subst (IsAfter root c.args.side reach 0) c.in-Some.is is in
    rw c.in-Some.is (remark_stands root c.args.side reach sized.slots c.grow-expansions.result c.grow-expansions.new.self.front c.numbers-proof.result.0
    c.numbers-proof.result.1 (is_ok c.put_all.result) _ _
    (c.grow-expansions.ensures.end root c.args.side reach own) (c.grow-expansions.ensures.front root c.args.side reach own) c.numbers-proof.ensures
    c.remark_line.ensures.remark
    (subst (AppendsPrefix (is_ok c.put_all.result) (g.O.Sink.written c.args.out.now) (g.O.Sink.written c.put_all.new.out))
    (c.as_slice.ensures.value ∙ c.remark_line.ensures.line) c.put_all.ensures.bytes))

pub returns-clause-front : goal.returns-clause-front
returns-clause-front g c = λ root reach is.
    let sized = c.in-Some.sized in
    let own : IsFrontOf root c.args.side reach 0 sized.slots sized.front = subst (IsAfter root c.args.side reach 0) c.in-Some.is is in
    (c.grow-expansions.result, rw c.grow-expansions.ensures.slots (c.grow-expansions.ensures.front root c.args.side reach own))

pub returns-clause-slots : goal.returns-clause-slots
returns-clause-slots g c = ap Some c.grow-expansions.ensures.slots ∙ sym (ap slots_of c.in-Some.is)

pub returns-clause-cause : goal.returns-clause-cause
returns-clause-cause g c = c.put_all.ensures.cause
