use Rattle.std.proofs.Common.{◌≡◌, None, subst, arith}
use Rattle.proof_text.specs.Checked.{line_refusal}
use Rattle.proof_book.specs.Shape.{viewed}
use Rattle.cert_checker.specs.Checking.{StopsAt}
use Rattle.cert_checker.specs.declared.stops.AddStop.{AddStop}
use Rattle.run_proof.proofs.Known.{next_lemma}
use Rattle.run_proof.proofs.lines.accept_line.Goals as goal

pub returns-in-Err-Memory-clause-answer : goal.returns-in-Err-Memory-clause-answer
returns-in-Err-Memory-clause-answer c =
    let line = viewed c.in-Ok.line in let before = c.make_room.new.checker in
    let P : AddStop → Type 0 = λ stop. StopsAt before.spare c.args.at stop (line_refusal before.stands line) line in
    let cause = subst P c.in-Err-Memory.field-0-is c.in-Err-Memory.ensures.cause in
    next_lemma c.args.version c.args.checker.now.stands c.args.at c.args.bytes.now c.args.size line c.requires.board (omega arith) c.in-Ok.ensures
    (subst (λ s. line_refusal s line ≡ None) c.make_room.ensures cause.0) cause.1
