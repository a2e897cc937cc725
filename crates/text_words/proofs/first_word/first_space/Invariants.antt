use Rattle.text_words.specs.Words.{AreNoSpaces}
use Rattle.text_words.proofs.first_word.first_space.Given as goal

abbrev pub invariant-loop-at : goal.invariant-loop-at
invariant-loop-at l = AreNoSpaces l.bytes l.at
