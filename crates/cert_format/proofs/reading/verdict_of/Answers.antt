use Rattle.std.proofs.Common.{Some, None, sym, ◌∙◌}
use Rattle.cert_format.proofs.Words.{verdict_win, verdict_loss, verdict_none}
use Rattle.cert_format.proofs.reading.verdict_of.Goals as goal

pub returns-in_err-number_of : goal.returns-in_err-number_of
returns-in_err-number_of c =
    c.from_residual.ensures ∙ sym (verdict_win c.args.bytes.now c.in-Some.rest.now None c.in-Some.ensures (sym c.number_of.ensures ∙ c.in_err-number_of.was))

pub returns-in-Some : goal.returns-in-Some
returns-in-Some c = sym (verdict_win c.args.bytes.now c.in-Some.rest.now (Some c.in_ok-number_of.field-0) c.in-Some.ensures
    (sym c.number_of.ensures ∙ c.in_ok-number_of.was))

pub returns-in_err-number_of-2 : goal.returns-in_err-number_of-2
returns-in_err-number_of-2 c =
    c.from_residual-in_err-number_of-2.ensures
    ∙ sym (verdict_loss c.args.bytes.now c.in-Some-behind.rest.now None c.in-Some-behind.ensures
    (sym c.number_of-in-Some-behind.ensures ∙ c.in_err-number_of-2.was))

pub returns-in-Some-behind : goal.returns-in-Some-behind
returns-in-Some-behind c =
    sym (verdict_loss c.args.bytes.now c.in-Some-behind.rest.now (Some c.in_ok-number_of-2.field-0) c.in-Some-behind.ensures
    (sym c.number_of-in-Some-behind.ensures ∙ c.in_ok-number_of-2.was))

pub returns : goal.returns
returns c = sym (verdict_none c.args.bytes.now (sym c.if-is_word.ensures) c.in_default.ensures c.in_default-behind.ensures c.in_default-behind-2.ensures)
