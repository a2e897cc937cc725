use Rattle.std.proofs.Common.{ap, sym, ◌∙◌, ◌^◌, ◌/◌, ◌==◌, bit_and}
use Rattle.game_rules.specs.Squares.{has_square}
use Rattle.game_rules.proofs.Squares.{has_where}
use Rattle.board_squares.specs.Words.{has_bit}
use Rattle.board_squares.proofs.Masks.{shift_has}
use Rattle.board_squares.proofs.mask.Mask.has.Goals as goal

pub returns : goal.returns
returns c =
    ap (λ i. bit_and (c.self.inside.word / 2 ^ i) 1 == 1) c.place_of.ensures.value
    ∙ shift_has c.self.inside.word c.args.s
    ∙ sym (has_where (has_bit c.self.inside.word) c.args.s c.place_of.ensures.on)
    ∙ ap (λ us. has_square us c.args.s) c.self.view_is
