use Rattle.std.proofs.Common.{◌≡◌, map, drop}
use Rattle.victor_words.specs.Words.{is_among}
use Rattle.victor_words.specs.Reading.{row}
use Rattle.victor_words.proofs.found.is_among.Given as goal

abbrev pub invariant-loop-option : goal.invariant-loop-option
invariant-loop-option l = is_among (map row (drop l.option-index l.options)) l.name ≡ is_among (map row l.options) l.name
