use Rattle.std.proofs.Common.{◌≡◌, drop}
use Rattle.game_rules.specs.Text.{after_text}
use Rattle.board_bits.proofs.game_text.after_text.Given as goal

abbrev pub invariant-loop-expected : goal.invariant-loop-expected
invariant-loop-expected l = after_text (drop l.expected-index l.text) l.rest ≡ after_text l.text l.bytes
