use Rattle.std.proofs.Common.{◌/◌, ◌^◌, ◌==◌, ap, ◌∙◌, bit_and}
use Rattle.board_squares.proofs.Masks.{shift_has}
use Rattle.board_bits.proofs.Positions.{has_side}
use Rattle.board_bits.proofs.position.Position.has_man.Goals as goal

pub returns : goal.returns
returns c =
    ap (λ i. bit_and (c.word.result / 2 ^ i) 1 == 1) c.place_of.ensures.value
    ∙ shift_has c.word.result c.args.s
    ∙ rw c.word.ensures.value (has_side c.args.self.now c.word.ensures.board c.word.ensures.stacked c.args.side c.args.s c.place_of.ensures.on)
