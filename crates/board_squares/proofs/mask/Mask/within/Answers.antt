use Rattle.std.proofs.Common.{arith}
use Rattle.board_squares.proofs.Masks.{word_from, within_word}
use Rattle.board_squares.proofs.mask.Mask.within.Goals as goal

pub returns : goal.returns
returns c =
    let other = word_from c.other.inside.word c.other.invariant in let low = other.low in
    rw (← c.self.view_is, ← c.other.view_is)
    (within_word c.self.inside.word c.other.inside.word (word_from c.self.inside.word c.self.invariant) (omega (arith, low)))
