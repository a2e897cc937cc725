use Rattle.std.proofs.Common.{sym, ◌∙◌, arith}
use Rattle.std.proofs.lemmas.Bool.{and_from, lt-ltb}
use Rattle.plan_rules.proofs.Spans.{lowinverse_shaped, lowinverse_widest}
use Rattle.inverse_rules.proofs.lowinverse.Lowinverse.new.Goals as goal

pub invariant_of-result : goal.invariant_of-result
invariant_of-result c =
    let x = c.args.x in let x_top = c.args.x_top in let y = c.args.y in let y_top = c.args.y_top in
    let ordered = lt-ltb x.0 y.0 (omega (arith, c.if-ordered.true)) in
    let left = sym c.is_column.ensures ∙ c.if-is_column.true in
    let right = sym c.is_column-then-is_column.ensures ∙ c.if-is_column-2.true in
    lowinverse_widest x x_top y y_top c.args.size c.is_a_board.ensures (lowinverse_shaped x x_top y y_top c.args.size
    ∙ and_from _ _ (and_from _ _ ordered left) right)
