use Rattle.std.proofs.Common.{◌≡◌, ◌+◌, ◌≤◌, ◌++◌, map, length, Some}
use Rattle.proof_text.specs.Reading.{◌>>=◌, words_of, cites_of}
use Rattle.proof_lines.specs.Shape.{cite_of}
use Rattle.text_words.proofs.Words.{words_left, bytes_left}
use Rattle.cert_format.proofs.reading.all_of.Given as goal

abbrev pub invariant-loop-left : goal.invariant-loop-left
invariant-loop-left l = record {
  cites : cites_of l.size.cols (words_of l.bytes) ≡ cites_of l.size.cols (words_left l.left) >>= (λ more. Some (map cite_of l.cites.items ++ more));
  counted : length (words_of l.bytes) ≡ length l.cites.items + length (words_left l.left);
  few : length l.cites.items ≤ 10;
}

abbrev pub decreases-loop-left : goal.decreases-loop-left
decreases-loop-left l = bytes_left l.left
