use Rattle.std.proofs.Common.{Some, None, sym, ap, ◌∙◌}
use Rattle.std.specs.Option.{option_map}
use Rattle.cert_format.proofs.Words.{reason_mirror, reason_none}
use Rattle.cert_format.proofs.reading.read_reason.Goals as goal

pub returns-in_err-number_of : goal.returns-in_err-number_of
returns-in_err-number_of c =
    ap (option_map _) c.from_residual-in_err-number_of.ensures
    ∙ sym (reason_mirror c.args.size c.args.bytes.now c.in-Some-behind-3.rest.now None c.in-Some-behind-3.ensures
    (sym c.number_of.ensures ∙ c.in_err-number_of.was))

pub returns-in-Some-behind-3 : goal.returns-in-Some-behind-3
returns-in-Some-behind-3 c = sym (reason_mirror c.args.size c.args.bytes.now c.in-Some-behind-3.rest.now (Some c.in_ok-number_of.field-0)
    c.in-Some-behind-3.ensures (sym c.number_of.ensures ∙ c.in_ok-number_of.was))

pub returns : goal.returns
returns c = sym (reason_none c.args.size c.args.bytes.now (sym c.if-is_word.ensures) c.in_default.ensures c.in_default-behind.ensures
    c.in_default-behind-2.ensures c.in_default-behind-3.ensures)
