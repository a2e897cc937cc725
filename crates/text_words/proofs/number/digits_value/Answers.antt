use Rattle.std.proofs.Common.{get_or, ap, ◌∙◌, arith}
use Rattle.std.proofs.lemmas.List.{take_all}
use Rattle.std.specs.Int.{IsInRange}
use Rattle.std.specs.Str.Parse.{digits_value}
use Rattle.std.proofs.lemmas.Str.Parse.{digit_at}
use Rattle.text_words.proofs.Digits.{digit_read, power_more, digits_more, all_digits}
use Rattle.text_words.proofs.number.digits_value.Goals as goal

pub returns-in_default : goal.returns-in_default
returns-in_default c = λ digits. let range = digit_at c.args.bytes.now c.loop-byte.byte-index digits c.loop-byte-test.true in omega (arith, range)

pub returns-in_default-2 : goal.returns-in_default-2
returns-in_default-2 c = λ digits. let range = digit_at c.args.bytes.now c.loop-byte.byte-index digits c.loop-byte-test.true in omega (arith, range)

pub loop-byte-preserved : goal.loop-byte-preserved
loop-byte-preserved c =
    let bytes = c.args.bytes.now in let i = c.loop-byte.byte-index in
    let range : IsInRange 48 57 (get_or bytes i 0) = (omega arith, omega arith) in
    record {
      value = omega (arith, digit_read bytes i c.loop-byte-test.true range);
      small = omega (arith, power_more i);
      digits = digits_more bytes i c.loop-byte.invariant.digits range;
    }

pub returns : goal.returns
returns c =
    let bytes = c.args.bytes.now in let i = c.loop-byte.byte-index in (
      all_digits bytes (λ k within. c.loop-byte.invariant.digits k (omega arith)),
      c.loop-byte.invariant.value
          ∙ ap (digits_value 10) (take_all i bytes (omega arith)),
    )
