use Rattle.std.proofs.Common.{◌<◌, ◌≤◌, sym, ◌∙◌, ap, arith}
use Rattle.game_rules.specs.Board.{on_board, line_length}
use Rattle.board_squares.proofs.Searches.{whole_line, broken_line}
use Rattle.board_squares.proofs.line.is_line.Goals as goal

pub returns-then-not-has_at : goal.returns-then-not-has_at
returns-then-not-has_at c =
    let within : c.loop-i.i < line_length c.args.size.len = omega (arith, c.loop-i-test.true, c.line-i-end.ensures.value) in
    sym (broken_line (on_board c.args.size) c.args.size.len c.args.way c.args.anchor c.loop-i.i within
    (ap (on_board c.args.size) (sym c.step_of.ensures) ∙ sym c.has_at.ensures.value ∙ c.if-not-has_at.true))

pub returns : goal.returns
returns c =
    let all : line_length c.args.size.len ≤ c.loop-i.i = omega (arith, c.loop-i-test.false, c.line-i-end.ensures.value) in
    sym (whole_line (on_board c.args.size) c.args.size.len c.args.way c.args.anchor c.loop-i.i all c.loop-i.invariant)
