use Rattle.std.proofs.Common.{arith}
use Rattle.board_squares.proofs.Words.{word_back}
use Rattle.board_squares.proofs.Masks.{word_from, without, without_word, without_set}
use Rattle.board_squares.proofs.mask.Mask.without.Goals as goal

pub invariant_of-result : goal.invariant_of-result
invariant_of-result c =
    let a = c.self.inside.word in let b = c.other.inside.word in
    word_back (without a b) (without_word a b (word_from a c.self.invariant))

pub returns : goal.returns
returns c =
    let other = word_from c.other.inside.word c.other.invariant in let low = other.low in
    rw (← c.self.view_is, ← c.other.view_is) (without_set c.self.inside.word c.other.inside.word (omega (arith, low)))
