use Rattle.std.proofs.Common.{◌≡◌, codes, is_ok, ◌∙◌}
use Rattle.std.proofs.lemmas.Result.{err_from_is_err_and}
use Rattle.game_rules.specs.Squares.{has_square, squares_where}
use Rattle.plan_rules.specs.Rules.{zone_of}
use Rattle.plan_text.specs.Items.{instance_text}
use Rattle.plan_lines.specs.Written.{written}
use Rattle.explain_text.specs.Explanation.{squares_text}
use Rattle.run_explain.proofs.Explaining.{line_cut_first, line_cut_second, line_cut_third, line_ends}
use Rattle.run_explain.proofs.writing.write_zone.Goals as goal

pub returns-in_err-print_item-clause-written : goal.returns-in_err-print_item-clause-written
returns-in_err-print_item-clause-written g c =
    let same = err_from_is_err_and c.from_residual.result c.from_residual.ensures.1 in
    rw same.1 (line_cut_first (instance_text (written c.args.instance.now)) (codes " owns")
    (squares_text (squares_where (has_square (zone_of (written c.args.instance.now))))) _ _ c.in_err-print_item.ensures.written)

pub returns-in_err-put_all-clause-written : goal.returns-in_err-put_all-clause-written
returns-in_err-put_all-clause-written g c =
    let same = err_from_is_err_and c.from_residual-in_err-put_all.result c.from_residual-in_err-put_all.ensures.1 in
    rw same.1 (line_cut_second (instance_text (written c.args.instance.now)) (codes " owns")
    (squares_text (squares_where (has_square (zone_of (written c.args.instance.now))))) _ _
    c.in_ok-print_item.ensures.written _ c.in_err-put_all.ensures.bytes)

pub returns-in_err-write_squares-clause-written : goal.returns-in_err-write_squares-clause-written
returns-in_err-write_squares-clause-written g c =
    let same = err_from_is_err_and c.from_residual-in_err-write_squares.result c.from_residual-in_err-write_squares.ensures.1 in
    let zone : c.as_slice.result.now ≡ squares_where (has_square (zone_of (written c.args.instance.now))) = c.as_slice.ensures.value ∙ c.squares.ensures
    ∙ c.zone.ensures.in_order in
    rw (same.1, ← zone) (line_cut_third (instance_text (written c.args.instance.now)) (codes " owns") (squares_text c.as_slice.result.now) _ _
    c.in_ok-print_item.ensures.written _ c.in_ok-put_all.ensures.bytes _ c.in_err-write_squares.ensures.written)

pub returns-clause-written : goal.returns-clause-written
returns-clause-written g c =
    let zone : c.as_slice.result.now ≡ squares_where (has_square (zone_of (written c.args.instance.now))) = c.as_slice.ensures.value ∙ c.squares.ensures
    ∙ c.zone.ensures.in_order in
    rw (← zone) (line_ends (instance_text (written c.args.instance.now)) (codes " owns") (squares_text c.as_slice.result.now) _ _
    c.in_ok-print_item.ensures.written _ c.in_ok-put_all.ensures.bytes _ c.in_ok-write_squares.ensures.written (is_ok c.put_all-2.result) _
    c.put_all-2.ensures.bytes)
