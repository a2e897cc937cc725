use Rattle.std.proofs.Common.{◌≡◌, ◌<◌, length, get_or, take, ap, ◌∙◌, arith}
use Rattle.std.specs.Int.{IsInRange}
use Rattle.std.specs.Str.Parse.{digits_value}
use Rattle.text_words.proofs.Digits.{digit_read, power_more, digits_more}
use Rattle.text_words.proofs.number.leading_digits.Goals as goal

pub loop-at-preserved : goal.loop-at-preserved
loop-at-preserved c =
    let bytes = c.args.bytes.now in let i = c.loop-at.at in
    let inside : i < length bytes = omega arith in
    let range : IsInRange 48 57 (get_or bytes i 0) = (omega arith, omega arith) in
    record {
      value = omega (arith, digit_read bytes i inside range);
      small = omega (arith, power_more i);
      within = omega (arith, inside);
      digits = digits_more bytes i c.loop-at.invariant.digits range;
    }

pub returns-clause-value : goal.returns-clause-value
returns-clause-value c =
    let all : c.loop-at.at ≡ 10 = omega arith in c.loop-at.invariant.value ∙ ap (λ i. digits_value 10 (take i c.args.bytes.now)) all
