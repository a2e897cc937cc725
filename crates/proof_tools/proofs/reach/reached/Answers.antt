use Rattle.std.proofs.Common.{◌≡◌, length, drop, ◌∙◌, arith}
use Rattle.std.proofs.lemmas.List.{take-append-le, take_all}
use Rattle.proof_tools.proofs.Agreeing.{made_reach}
use Rattle.proof_tools.proofs.reach.reached.Goals as goal

pub invariant_of-result : goal.invariant_of-result
invariant_of-result c = (made_reach c.in_ok-numbers_of.field-0.items c.deref.result.now c.in_ok-numbers_of.ensures).0

pub returns : goal.returns
returns c =
    let marks = c.mark_reached.new.marks in
    let len = c.in_ok-marks.marks.len in
    let same : length marks ≡ len = omega (arith, c.mark_reached.auto.marks, c.deref_mut.ensures.len) in
    (made_reach c.in_ok-numbers_of.field-0.items c.deref.result.now c.in_ok-numbers_of.ensures).1
    ∙ c.deref.ensures.value
    ∙ take-append-le len marks (drop (length marks) c.in_ok-marks.marks.items) (omega (arith, same))
    ∙ take_all len marks (omega (arith, same)) ∙ c.mark_reached.ensures
