use Rattle.std.proofs.Common.{◌≡◌, true, map, take}
use Rattle.game_rules.specs.Grammar.{letter_of}
use Rattle.cert_format.proofs.named_moves.block_is_named.Given as goal

abbrev pub invariant-loop-i : goal.invariant-loop-i
invariant-loop-i g l = l.named ≡ true → take l.i l.letters ≡ map letter_of (take l.i l.moves)
