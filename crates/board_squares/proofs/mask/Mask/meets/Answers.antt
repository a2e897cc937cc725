use Rattle.board_squares.proofs.Masks.{word_from, meets_word}
use Rattle.board_squares.proofs.mask.Mask.meets.Goals as goal

pub returns : goal.returns
returns c = rw (← c.self.view_is, ← c.other.view_is) (meets_word c.self.inside.word c.other.inside.word (word_from c.self.inside.word c.self.invariant))
