use Rattle.board_bits.proofs.MoveWords.{empty_sound, empty_men}
use Rattle.board_bits.proofs.position.Position.empty.Goals as goal

pub invariant_of-result : goal.invariant_of-result
invariant_of-result c = empty_sound c.args.size c.is_a_board.ensures

pub returns : goal.returns
returns c = empty_men c.args.size c.is_a_board.ensures
