use Rattle.std.proofs.Common.{◌≡◌, ℕ, ◌<◌, ◌≤◌, ◌-◌, true, length, get_or}
use Rattle.game_rules.specs.Text.{is_digit}
use Rattle.board_bits.proofs.game_text.digit_run.Given as goal

abbrev pub invariant-loop-digits : goal.invariant-loop-digits
invariant-loop-digits l = record {
  within : l.digits ≤ length l.bytes;
  all_digits : (k : ℕ) → k < l.digits → is_digit (get_or l.bytes k 0) ≡ true;
}

abbrev pub decreases-loop-digits : goal.decreases-loop-digits
decreases-loop-digits l = length l.bytes - l.digits
