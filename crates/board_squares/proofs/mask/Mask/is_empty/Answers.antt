use Rattle.board_squares.proofs.Masks.{word_from, none_word}
use Rattle.board_squares.proofs.mask.Mask.is_empty.Goals as goal

pub returns : goal.returns
returns c = rw (← c.self.view_is) (none_word c.self.inside.word (word_from c.self.inside.word c.self.invariant))
