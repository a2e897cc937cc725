use Rattle.std.proofs.Common.{◌/◌, ◌^◌, ◌==◌, ◌&&◌, not, sym, ap, ◌∙◌, bit_and, is_none}
use Rattle.game_rules.specs.Board.{on_board}
use Rattle.game_rules.specs.Position.{man_at}
use Rattle.board_squares.specs.Words.{has_bit}
use Rattle.board_squares.proofs.Masks.{shift_lacks}
use Rattle.board_bits.proofs.Positions.{has_none}
use Rattle.board_bits.proofs.position.Position.is_empty.Goals as goal

pub returns-then-has : goal.returns-then-has
returns-then-has c =
    ap (λ i. bit_and (c.all_men.result / 2 ^ i) 1 == 0) c.place_of.ensures.value
    ∙ shift_lacks c.all_men.result c.args.s
    ∙ ap (λ n. not (has_bit n c.args.s)) c.all_men.ensures.value
    ∙ has_none c.args.self.now c.all_men.ensures.board c.all_men.ensures.stacked c.args.s c.place_of.ensures.on
    ∙ ap (λ b. b && is_none (man_at c.args.self.now c.args.s)) (sym c.if-has.true ∙ c.has.ensures ∙ ap (λ b. on_board b c.args.s) c.size.ensures.value)
