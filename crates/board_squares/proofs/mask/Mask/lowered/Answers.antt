use Rattle.board_squares.proofs.Words.{word_back}
use Rattle.board_squares.proofs.Masks.{word_from}
use Rattle.board_squares.proofs.Rows.{lowered_word, lowered_set}
use Rattle.board_squares.proofs.mask.Mask.lowered.Goals as goal

pub invariant_of-result : goal.invariant_of-result
invariant_of-result c = word_back _ (lowered_word c.self.inside.word (word_from c.self.inside.word c.self.invariant))

pub returns : goal.returns
returns c = rw (← c.self.view_is) (lowered_set c.self.inside.word (word_from c.self.inside.word c.self.invariant))
