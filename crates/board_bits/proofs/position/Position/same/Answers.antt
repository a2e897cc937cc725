use Rattle.board_bits.proofs.Equals.{same_known}
use Rattle.board_bits.proofs.Lengths.{lengths}
use Rattle.board_bits.proofs.position.Position.same.Goals as goal

pub returns-clause-value : goal.returns-clause-value
returns-clause-value c =
    same_known lengths c.args.self.now c.args.other.now c.all_men-own.ensures.board c.all_men-own.ensures.stacked c.all_men-others.ensures.board
    c.all_men-others.ensures.stacked c.eq.result c.eq.ensures
