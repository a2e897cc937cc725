use Rattle.std.proofs.Common.{[], ◌∷◌, ◌++◌, map, refl, sym, ap, ◌∙◌, arith}
use Rattle.plan_rules.proofs.Bottoms.{tops_within, column_more, no_column, bottom_row_on_board}
use Rattle.plan_rules.proofs.Fits.{even_rows}
use Rattle.game_rules.specs.Board.{Board, Square}
use Rattle.game_rules.specs.Position.{board_of}
use Rattle.inverse_rules.proofs.lowinverse.push_columns_over.Goals as goal

pub loop-bottom-init : goal.loop-bottom-init
loop-bottom-init c =
    let bottom = bottom_row_on_board c.args.p.now c.size-size.ensures.board c.args.bottom c.requires.bottom in
    record {
      column = refl;
      even = bottom.0;
      low = omega arith;
      within = bottom.1;
      items = no_column c.args.bottom c.args.columns.now.items;
      count = omega arith;
    }

pub loop-bottom-preserved : goal.loop-bottom-preserved
loop-bottom-preserved c =
    let so_far = c.loop-bottom.invariant in
    let bottom = bottom_row_on_board c.args.p.now c.size-size.ensures.board c.args.bottom c.requires.bottom in
    let rows = even_rows (board_of c.args.p.now) c.size-size.ensures.board in
    let row = ap (λ (u : Square). u.1) c.step-top.ensures in
    let high = ap (λ (b : Board). b.rows) c.size-size.ensures.value in
    record {
      column = ap (λ (u : Square). u.0) c.step-top.ensures ∙ so_far.column;
      even = omega (arith, row, so_far.even);
      low = omega (arith, row, so_far.low);
      within = omega (arith, row, rows, high, so_far.even, so_far.within, c.loop-bottom-test.true, c.row.ensures.value, c.rows.ensures.value);
      items =
          c.push.ensures.items
          ∙ ap (λ u. c.loop-bottom.columns.items ++ (c.args.bottom, u) ∷ []) c.step-top.ensures
          ∙ column_more c.args.bottom c.loop-bottom.top c.args.columns.now.items c.loop-bottom.columns.items bottom.0 so_far.even so_far.low so_far.column
          so_far.items
          ∙ ap (λ n. c.args.columns.now.items ++ map (λ (u : Square). (c.args.bottom, u)) (tops_within c.args.bottom n)) (sym row);
      count = omega (arith, row, so_far.count, c.push.ensures.len);
    }

pub returns-clause-items : goal.returns-clause-items
returns-clause-items c =
    let high = ap (λ (b : Board). b.rows) c.size-size.ensures.value in
    c.loop-bottom.invariant.items
    ∙ ap (λ n. c.args.columns.now.items ++ map (λ (u : Square). (c.args.bottom, u)) (tops_within c.args.bottom n))
    (omega (arith, high, c.loop-bottom.invariant.within, c.loop-bottom-test.false, c.row.ensures.value, c.rows.ensures.value))
