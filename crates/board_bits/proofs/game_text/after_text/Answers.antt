use Rattle.std.proofs.Common.{Err, ap, sym, ◌∙◌}
use Rattle.board_bits.proofs.Stops.{text_missing}
use Rattle.board_bits.proofs.game_text.after_text.Goals as goal

pub returns-in_default : goal.returns-in_default
returns-in_default c = sym c.loop-expected.invariant
    ∙ text_missing c.args.text.now c.loop-expected.rest.now c.loop-expected.expected-index c.loop-expected-test.true c.in_default.len_below
    ∙ ap (λ s. Err s) (sym c.stop.ensures)
