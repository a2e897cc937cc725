use Rattle.std.proofs.Common.{◌≡◌, ◌+◌, ◌-◌, ◌<◌, ◌++◌, suc, length, drop, sym, ap, ◌∙◌, subst, arith, add-one}
use Rattle.std.proofs.lemmas.Result.{err_from_is_err_and}
use Rattle.proof_text.specs.Spelling.{lines_of}
use Rattle.tool_text.specs.Trim.{kept_lemmas}
use Rattle.proof_tools.specs.Printed.{lines_at}
use Rattle.proof_tools.specs.Reach.{mark_at}
use Rattle.proof_tools.proofs.Putting.{PutSoFar, put_more, put_cut}
use Rattle.proof_tools.proofs.Printing.{lines_next_put}
use Rattle.proof_tools.proofs.printed.print_reached.Goals as goal

pub loop-n-preserved : goal.loop-n-preserved
loop-n-preserved g c =
    let so_far = c.loop-n.invariant in
    let next = lines_next_put (mark_at c.args.reach.now) c.args.book.now c.loop-n.n (omega (arith, c.loop-n-test.true, c.len.ensures.value)) in
    record {
      put = put_more _ _ _ _ _ _ (subst (PutSoFar _ _ _) next so_far.put) c.in_ok-put_reached.ensures.written;
      counted = c.in_ok-put_reached.ensures.counted;
      within = omega (arith, c.loop-n-test.true, c.len.ensures.value);
      later = omega (arith, so_far.later, c.in_ok-put_reached.ensures.cause.later);
    }

pub returns-in_err-put_reached-clause-written : goal.returns-in_err-put_reached-clause-written
returns-in_err-put_reached-clause-written g c =
    let same = err_from_is_err_and c.from_residual.result c.from_residual.ensures.1 in
    let next = lines_next_put (mark_at c.args.reach.now) c.args.book.now c.loop-n.n (omega (arith, c.loop-n-test.true, c.len.ensures.value)) in
    rw same.1 (put_cut _ _ _ _ _ _ (subst (PutSoFar _ _ _) next c.loop-n.invariant.put) c.in_err-put_reached.ensures.written)
