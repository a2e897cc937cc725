use Rattle.std.proofs.Common.{take, sym, subst, ◌∙◌, arith}
use Rattle.std.proofs.lemmas.List.{take_all}
use Rattle.std.specs.Str.Parse.{AllDigits}
use Rattle.text_words.proofs.Digits.{front_digits, digits_alone, digits_first, none_first, none_cut}
use Rattle.text_words.proofs.number.split_number.Goals as goal

pub number_spelled-requires-clause-digits : goal.number_spelled-requires-clause-digits
number_spelled-requires-clause-digits c =
    let end = c.leading_digits-number.result.1 in let digits = c.leading_digits-number.ensures in
    subst (AllDigits 10) (take_all end c.args.bytes.now (omega arith)) (front_digits c.args.bytes.now end digits.digits digits.within)

pub returns-in_err-number_spelled-clause-number : goal.returns-in_err-number_spelled-clause-number
returns-in_err-number_spelled-clause-number c =
    let bytes = c.args.bytes.now in let digits = c.leading_digits-number.ensures in
    rw c.from_residual.ensures (none_first c.args.low c.args.high bytes bytes _
    (digits_alone bytes c.leading_digits-number.result.1 digits.digits (omega arith)) (sym c.number_spelled.ensures ∙ c.in_err-number_spelled.was))

pub returns-then-end-bytes-clause-number : goal.returns-then-end-bytes-clause-number
returns-then-end-bytes-clause-number c =
    let bytes = c.args.bytes.now in let digits = c.leading_digits-number.ensures in
    record {
      word = bytes;
      words = digits_alone bytes c.leading_digits-number.result.1 digits.digits (omega arith);
      spells = sym c.number_spelled.ensures ∙ c.in_ok-number_spelled.was;
    }

pub returns-then-bytes-end-ne32-clause-number : goal.returns-then-bytes-end-ne32-clause-number
returns-then-bytes-end-ne32-clause-number c =
    let end = c.leading_digits-number.result.1 in let digits = c.leading_digits-number.ensures in
    none_cut c.args.low c.args.high c.args.bytes.now end (omega arith) (omega arith) digits.few digits.digits digits.all c.if-bytes-end-ne32.true

pub number_spelled-requires-2-clause-digits : goal.number_spelled-requires-2-clause-digits
number_spelled-requires-2-clause-digits c =
    let digits = c.leading_digits-number.ensures in front_digits c.args.bytes.now c.leading_digits-number.result.1 digits.digits digits.within

pub returns-in_err-number-clause-number : goal.returns-in_err-number-clause-number
returns-in_err-number-clause-number c =
    let bytes = c.args.bytes.now in let end = c.leading_digits-number.result.1 in
    rw c.from_residual-in_err-number.ensures (none_first c.args.low c.args.high bytes (take end bytes) _
    (digits_first bytes end c.leading_digits-number.ensures.digits c.if-bytes-end-ne32.false (omega arith))
    (sym c.number_spelled-2.ensures ∙ c.in_err-number.was))

pub returns-clause-number : goal.returns-clause-number
returns-clause-number c =
    let bytes = c.args.bytes.now in let end = c.leading_digits-number.result.1 in
    record {
      word = take end bytes;
      words = digits_first bytes end c.leading_digits-number.ensures.digits c.if-bytes-end-ne32.false (omega arith);
      spells = sym c.number_spelled-2.ensures ∙ c.in_ok-number.was;
    }
