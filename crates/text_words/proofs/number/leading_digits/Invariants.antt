use Rattle.std.proofs.Common.{◌≡◌, ◌^◌, ◌<◌, ◌≤◌, length, take}
use Rattle.std.specs.Str.Parse.{digits_value}
use Rattle.text_words.specs.Words.{AreDigits}
use Rattle.text_words.proofs.number.leading_digits.Given as goal

abbrev pub invariant-loop-at : goal.invariant-loop-at
invariant-loop-at l = record {
  value : l.value ≡ digits_value 10 (take l.at l.bytes);
  small : l.value < 10 ^ l.at;
  within : l.at ≤ length l.bytes;
  digits : AreDigits l.bytes l.at;
}
