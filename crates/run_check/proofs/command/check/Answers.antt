use Rattle.std.proofs.lemmas.Result.{err_from_is_err_and}
use Rattle.device_rules.proofs.DeviceLaws.{Rose_before}
use Rattle.std.proofs.Common.{refl}
use Rattle.run_proof.proofs.Judging.{caused_read, caused_write}
use Rattle.run_check.proofs.Ends.{checks_done, checks_cut, checks_stop, check_owes}
use Rattle.run_check.proofs.command.check.Goals as goal

pub returns-in_err-proof : goal.returns-in_err-proof
returns-in_err-proof g c =
    let same = err_from_is_err_and c.from_residual.result c.from_residual.ensures.1 in
    let stop = c.in_err-proof.field-0.0 in
    rw (same.1, same.2) (check_owes _ _ _ _ (checks_stop _ stop c.in_err-proof.ensures.judged) (caused_read _ _ stop c.in_err-proof.ensures.cause)
    (caused_write _ _ stop c.in_err-proof.ensures.cause))

pub returns-in_err-put_accepted : goal.returns-in_err-put_accepted
returns-in_err-put_accepted g c =
    let same = err_from_is_err_and c.from_residual-in_err-put_accepted.result c.from_residual-in_err-put_accepted.ensures.1 in
    rw (same.1, same.2) (check_owes _ _ _ _ (checks_cut _ _ c.in_ok-proof.proof c.in_ok-proof.ensures.judged c.in_err-put_accepted.ensures.written)
    (λ is. absurd (cc is))
    (λ is. Rose_before _ _ _ c.in_ok-proof.ensures.later (c.in_err-put_accepted.ensures.cause.failed refl)))

pub returns : goal.returns
returns g c = check_owes _ _ _ _ (checks_done _ _ c.in_ok-proof.proof c.in_ok-proof.ensures.judged c.in_ok-put_accepted.ensures.written)
    (λ is. absurd (cc is)) (λ is. absurd (cc is))
