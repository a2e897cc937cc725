use Rattle.std.proofs.Common.{◌≡◌, ◌<◌, ◌≤◌, length, ◌++◌, sym, ap, ◌∙◌, arith}
use Rattle.std.specs.List.{flat_map}
use Rattle.game_rules.specs.Board.{below}
use Rattle.game_rules.specs.Squares.{squares_in_column}
use Rattle.game_rules.proofs.Groups.{board_most}
use Rattle.board_squares.proofs.Columns.{columns_more, columns_all, rows_more, rows_room}
use Rattle.board_squares.proofs.size.Size.squares.Goals as goal

pub push_column-requires : goal.push_column-requires
push_column-requires c =
    let high : c.args.self.now.rows ≤ 10 = (board_most c.args.self.now c.cols-index-end.ensures.board).1 in
    let within : c.loop-index.index < c.args.self.now.cols = omega arith in
    let wide : c.args.self.now.cols ≤ 10 = omega arith in
    omega (arith, c.loop-index.invariant.count, rows_room c.loop-index.index c.args.self.now.cols c.args.self.now.rows within wide high)

pub loop-index-preserved : goal.loop-index-preserved
loop-index-preserved c =
    let i = c.loop-index.index in let rows = c.args.self.now.rows in
    let column : squares_in_column rows c.nth_column.result ≡ squares_in_column rows i = ap (squares_in_column rows) c.nth_column.ensures in
    record {
      so_far = c.push_column.ensures ∙ ap (λ us. us ++ squares_in_column rows c.nth_column.result) c.loop-index.invariant.so_far
          ∙ ap (λ us. flat_map (squares_in_column rows) (below i) ++ us) column ∙ sym (columns_more rows i);
      count = ap length c.push_column.ensures ∙ rows_more rows i c.nth_column.result c.loop-index.squares.items c.loop-index.invariant.count;
    }

pub returns-clause-items : goal.returns-clause-items
returns-clause-items c = c.loop-index.invariant.so_far ∙ columns_all c.args.self.now c.loop-index.index (omega arith)
