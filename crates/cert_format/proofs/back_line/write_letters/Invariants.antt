use Rattle.std.proofs.Common.{◌≡◌, take, map}
use Rattle.game_rules.specs.Grammar.{letter_of}
use Rattle.cert_format.proofs.back_line.write_letters.Given as goal

abbrev pub invariant-loop-index : goal.invariant-loop-index
invariant-loop-index l = take l.index l.bytes ≡ map letter_of (take l.index l.path)
