use Rattle.std.specs.Int.RustNames.{bit_and}
use Rattle.board_squares.proofs.Words.{word_back}
use Rattle.board_squares.proofs.Masks.{word_from, common_word, common_set}
use Rattle.board_squares.proofs.mask.Mask.intersection.Goals as goal

pub invariant_of-result : goal.invariant_of-result
invariant_of-result c =
    let a = c.self.inside.word in let b = c.other.inside.word in
    word_back (bit_and a b) (common_word a b (word_from a c.self.invariant))

pub returns : goal.returns
returns c = rw (← c.self.view_is, ← c.other.view_is) (common_set c.self.inside.word c.other.inside.word)
