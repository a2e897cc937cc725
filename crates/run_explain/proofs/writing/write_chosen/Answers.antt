use Rattle.std.proofs.lemmas.Result.{err_from_is_err_and}
use Rattle.run_explain.proofs.writing.write_chosen.Goals as goal

pub returns-in_err-put_line-in-Spent-clause-written : goal.returns-in_err-put_line-in-Spent-clause-written
returns-in_err-put_line-in-Spent-clause-written g c =
    let same = err_from_is_err_and c.from_residual-in_err-put_line-in-Spent.result c.from_residual-in_err-put_line-in-Spent.ensures.1 in
    rw (same.1, c.in-Spent.is) c.in_err-put_line-in-Spent.ensures.written

pub returns-in_ok-put_line-in-Spent-clause-written : goal.returns-in_ok-put_line-in-Spent-clause-written
returns-in_ok-put_line-in-Spent-clause-written g c = rw c.in-Spent.is c.in_ok-put_line-in-Spent.ensures.written
