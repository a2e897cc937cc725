use Rattle.board_squares.proofs.Masks.{word_from}
use Rattle.board_squares.proofs.mask.Mask.bits.Goals as goal

pub returns-clause-within : goal.returns-clause-within
returns-clause-within c = (word_from c.self.inside.word c.self.invariant).low
