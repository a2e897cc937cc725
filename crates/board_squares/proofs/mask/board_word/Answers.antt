use Rattle.std.proofs.Common.{◌-◌, ◌*◌, ◌/◌, ◌%◌, ◌^◌, ap, ◌∙◌}
use Rattle.board_squares.specs.declared.mask.TheConstants.{LOWEST_SQUARES}
use Rattle.board_squares.proofs.BoardWord.{board_filled}
use Rattle.board_squares.proofs.mask.board_word.Goals as goal

pub returns : goal.returns
returns c =
    ap (λ r. (1 * 2 ^ r % 2 ^ 128 - 1) * (LOWEST_SQUARES / 2 ^ (11 * c.from.result))) c.rows.ensures.value
    ∙ ap (λ n. (1 * 2 ^ c.args.size.rows % 2 ^ 128 - 1) * (LOWEST_SQUARES / 2 ^ (11 * n))) (c.from.ensures ∙ ap (λ n. 10 - n) c.cols.ensures.value)
    ∙ board_filled c.args.size c.rows.ensures.board
