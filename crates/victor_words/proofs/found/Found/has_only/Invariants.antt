use Rattle.std.proofs.Common.{◌≡◌, map, drop}
use Rattle.victor_words.specs.Words.{has_only}
use Rattle.victor_words.specs.Reading.{pair, row}
use Rattle.victor_words.proofs.found.Found.has_only.Given as goal

abbrev pub invariant-loop-given : goal.invariant-loop-given
invariant-loop-given l = has_only (map row l.options) (map pair (drop l.given-index l.all)) ≡ has_only (map row l.options) (map pair l.all)
