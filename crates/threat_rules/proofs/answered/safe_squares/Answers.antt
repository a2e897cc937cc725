use Rattle.std.proofs.Common.{◌&&◌, ◌==◌, subst}
use Rattle.game_rules.specs.Board.{on_board}
use Rattle.game_rules.specs.Squares.{widest, IsSetOf}
use Rattle.threat_rules.proofs.SafeSets.{cut_set, rest_set, safe_set}
use Rattle.threat_rules.proofs.answered.safe_squares.Goals as goal

pub returns : goal.returns
returns c =
    let p = c.args.p.now in let t = c.args.t in let pairs = c.args.pairs.now in
    let column = subst (λ n. IsSetOf (λ u. on_board widest u && (n == u.0)) c.column-column.result) c.column.ensures c.column-column.ensures in
    let cut = cut_set p t c.empties-empties.result c.odd_rows-odd_rows.result c.column-column.result c.upwards.result c.intersection.result c.union.result
    c.intersection-in_column.result c.empties-empties.ensures c.odd_rows-odd_rows.ensures column c.upwards.ensures c.intersection.ensures c.union.ensures
    c.intersection-in_column.ensures in
    let rest = rest_set p t pairs c.empties-empties.result c.odd_rows-odd_rows.result c.column-column.result c.squares_of_pairs.result c.without.result
    c.union-2.result c.without-elsewhere.result c.empties-empties.ensures c.odd_rows-odd_rows.ensures column c.squares_of_pairs.ensures c.without.ensures
    c.union-2.ensures c.without-elsewhere.ensures in
    safe_set p t pairs c.intersection-in_column.result c.without-elsewhere.result c.union-3.result c.has_a_board.ensures.board c.requires cut rest
    c.union-3.ensures
