use Rattle.std.proofs.Common.{◌≡◌, map, string_bytes, drop}
use Rattle.victor_words.specs.Reading.{shown, found_from}
use Rattle.victor_words.proofs.found.Found.with_all.Given as goal

abbrev pub invariant-loop-word : goal.invariant-loop-word
invariant-loop-word l =
    found_from (map string_bytes (drop l.word-index l.words)) (shown l.found) ≡ found_from (map string_bytes l.words) (shown l.initial.found)
