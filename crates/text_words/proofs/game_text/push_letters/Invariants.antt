use Rattle.std.proofs.Common.{◌≡◌, ◌+◌, ◌++◌, map, drop}
use Rattle.arrayvec.specs.ArrayVec.{array_vec_len}
use Rattle.game_rules.specs.Grammar.{letter_of}
use Rattle.text_words.proofs.game_text.push_letters.Given as goal

abbrev pub invariant-loop-column : goal.invariant-loop-column
invariant-loop-column l = record {
  items : l.line.items ++ map letter_of (drop l.column-index l.moves) ≡ l.fn.line.items ++ map letter_of l.moves;
  room : array_vec_len l.line ≡ array_vec_len l.fn.line + l.column-index;
}
