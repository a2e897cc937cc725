use Rattle.std.proofs.Common.{sym, subst, ◌∙◌}
use Rattle.proof_text.specs.Spelling.{greatest_number}
use Rattle.text_words.specs.Words.{HasNumber}
use Rattle.cert_format.proofs.Words.{whole_number, part_number, no_number}
use Rattle.cert_format.proofs.reading.number_of.Goals as goal

pub returns-in_err-number : goal.returns-in_err-number
returns-in_err-number c = c.from_residual.ensures ∙ sym (no_number c.args.word.now c.in_err-number.ensures.number)

pub returns-in_default-None : goal.returns-in_default-None
returns-in_default-None c =
    let n = c.in_ok-number.field-0.0 in
    sym (whole_number c.args.word.now n (subst (HasNumber 1 greatest_number c.args.word.now n) c.in_default-None.is-1 c.in_ok-number.ensures.number))

pub returns-in_default-Some : goal.returns-in_default-Some
returns-in_default-Some c =
    let n = c.in_ok-number.field-0.0 in
    sym (part_number c.args.word.now n c.in_default-Some.field-0-1
    (subst (HasNumber 1 greatest_number c.args.word.now n) c.in_default-Some.is-1 c.in_ok-number.ensures.number))
