use Rattle.board_squares.proofs.Words.{word_back}
use Rattle.board_squares.proofs.Rows.{odd_word, odd_set}
use Rattle.board_squares.proofs.mask.Mask.odd_rows.Goals as goal

pub invariant_of-result : goal.invariant_of-result
invariant_of-result c = word_back _ odd_word

pub returns : goal.returns
returns c = odd_set
