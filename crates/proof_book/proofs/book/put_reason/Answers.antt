use Rattle.std.proofs.Common.{sym, ap, ◌∙◌}
use Rattle.proof_text.specs.Lemma.{ByPlan}
use Rattle.proof_lines.specs.Written.{written_list}
use Rattle.proof_lines.specs.Shape.{reason_viewed}
use Rattle.proof_book.proofs.Kept.{keeps_none, keeps_members}
use Rattle.proof_book.proofs.book.put_reason.Goals as goal

pub returns-in-Ended-clause-put : goal.returns-in-Ended-clause-put
returns-in-Ended-clause-put c = keeps_none _ _ _ _ tt (sym (ap reason_viewed c.in-Ended.is))

pub returns-in-One-clause-put : goal.returns-in-One-clause-put
returns-in-One-clause-put c = keeps_none _ _ _ _ tt (sym (ap reason_viewed c.in-One.is))

pub returns-in-Mirror-clause-put : goal.returns-in-Mirror-clause-put
returns-in-Mirror-clause-put c = keeps_none _ _ _ _ tt (sym (ap reason_viewed c.in-Mirror.is))

pub returns-in_ok-put_run-in-Plan-clause-put : goal.returns-in_ok-put_run-in-Plan-clause-put
returns-in_ok-put_run-in-Plan-clause-put c =
    let run = c.as_slice-in-Plan.result.now in
    keeps_members _ _ _ run _ _ c.in_ok-put_run-in-Plan.ensures.more c.as_slice-in-Plan.ensures.fits c.in_ok-put_run-in-Plan.ensures.put.0
    c.in_ok-put_run-in-Plan.ensures.put.1
    (ap (λ list. ByPlan (written_list list)) c.as_slice-in-Plan.ensures.value ∙ sym (ap reason_viewed c.in-Plan.is))
