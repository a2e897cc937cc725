use Rattle.std.proofs.Common.{◌∷◌, arith}
use Rattle.std.proofs.lemmas.Result.{err_from_is_err_and}
use Rattle.plan_text.specs.Items.{square_text}
use Rattle.plan_lines.proofs.Members.{pieces_cut}
use Rattle.run_explain.proofs.writing.write_each_square.Goals as goal

pub returns-in_err-write_square-clause-written : goal.returns-in_err-write_square-clause-written
returns-in_err-write_square-clause-written g c =
    let same = err_from_is_err_and c.from_residual.result c.from_residual.ensures.1 in
    rw same.1 (pieces_cut (λ u. 32 ∷ square_text u) _ _ _ c.args.squares.now c.loop-square.square-index c.square-item.result (omega arith) c.square-item.is
    c.loop-square.invariant.bytes c.in_err-write_square.ensures.written)
