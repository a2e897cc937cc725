use Rattle.game_rules.specs.Squares.{widest}
use Rattle.game_rules.proofs.Ends.{on_board_parts}
use Rattle.board_squares.proofs.Words.{word_back}
use Rattle.board_squares.proofs.Rows.{part_word, part_set}
use Rattle.board_squares.proofs.mask.Mask.rows_from.Goals as goal

pub invariant_of-result : goal.invariant_of-result
invariant_of-result c =
    let bottom = c.args.bottom in
    let parts = on_board_parts widest bottom.0 bottom.1 c.place_of.ensures.on in
    rw (c.row.ensures.value, c.place_of.ensures.value)
    (word_back _ (part_word bottom.0 bottom.1 c.args.top parts.0 parts.1 parts.2 c.requires))

pub returns : goal.returns
returns c =
    let bottom = c.args.bottom in
    let parts = on_board_parts widest bottom.0 bottom.1 c.place_of.ensures.on in
    rw (c.row.ensures.value, c.place_of.ensures.value)
    (part_set bottom.0 bottom.1 c.args.top parts.0 parts.1 parts.2 c.requires)
