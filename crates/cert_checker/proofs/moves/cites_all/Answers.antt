use Rattle.std.proofs.Common.{◌+◌, ◌<◌, length, sym, ap, ◌∙◌, arith}
use Rattle.std.specs.Str.{bytes_eq}
use Rattle.std.proofs.lemmas.Option.{MatchOption-at_some}
use Rattle.game_rules.specs.Position.{open_columns}
use Rattle.cert_checker.specs.Checking.{columns_of}
use Rattle.cert_checker.proofs.Columns.{open_from, column_missed, column_cited, column_closed}
use Rattle.cert_checker.proofs.moves.cites_all.Goals as goal
use Rattle.cert_checker.proofs.moves.cites_all.Goals.{then-has_room+in-Some, else-has_room}

pub returns-in_default : goal.returns-in_default
returns-in_default c =
    let p = c.args.position.now in let i = c.loop-index.index in let column = c.nth_column-column.result in
    let within : i < length p.columns = omega (arith, c.loop-index-test.true, c.loop-index.invariant.end) in
    column_missed p i column (columns_of c.loop-index.left.now) (bytes_eq (columns_of c.args.cites.now) (open_columns p)) c.nth_column-column.ensures within
    (sym c.has_room.ensures ∙ c.if-has_room.true) c.loop-index.invariant.same c.in_default.ensures

pub loop-index-preserved : goal.loop-index-preserved
loop-index-preserved c =
    let p = c.args.position.now in let i = c.loop-index.index in let column = c.nth_column-column.result in
    let within : i < length p.columns = omega (arith, c.loop-index-test.true, c.loop-index.invariant.end) in
    let all = bytes_eq (columns_of c.args.cites.now) (open_columns p) in
    record {
      board = c.loop-index.invariant.board;
      end = c.loop-index.invariant.end;
      same = elim c.if-has_room.branch [
        | then-has_room+in-Some w ↦
            ap (λ left. bytes_eq (columns_of left.now) (open_from p (i + 1))) w.left-is
            ∙ column_cited p i column (columns_of c.loop-index.left.now) (columns_of w.in-Some.rest.now) all c.nth_column-column.ensures within
            (sym c.has_room.ensures ∙ w.if-has_room.true) c.loop-index.invariant.same
            (MatchOption-at_some _ _ w.in-Some.rest w.in-Some.is w.behind.ensures)
        | else-has_room w ↦
            ap (λ left. bytes_eq (columns_of left.now) (open_from p (i + 1))) w.left-is
            ∙ column_closed p i column (columns_of c.loop-index.left.now) all c.nth_column-column.ensures within (sym c.has_room.ensures ∙ w.if-has_room.false)
            c.loop-index.invariant.same
      ];
    }
