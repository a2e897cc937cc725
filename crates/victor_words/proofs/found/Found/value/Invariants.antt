use Rattle.std.proofs.Common.{◌≡◌, None, map, option_map, drop}
use Rattle.victor_words.specs.Words.{values}
use Rattle.victor_words.specs.Reading.{pair, text, only_from}
use Rattle.victor_words.proofs.found.Found.value.Given as goal

abbrev pub invariant-loop-given : goal.invariant-loop-given
invariant-loop-given l =
    only_from (option_map text l.value) (values l.name (map pair (drop l.given-index l.all))) ≡ only_from None (values l.name (map pair l.all))
