use Rattle.board_squares.proofs.Words.{word_back}
use Rattle.board_squares.proofs.Masks.{zero_word, zero_set}
use Rattle.board_squares.proofs.mask.Mask.empty.Goals as goal

pub invariant_of-result : goal.invariant_of-result
invariant_of-result c = word_back 0 zero_word

pub returns : goal.returns
returns c = zero_set
