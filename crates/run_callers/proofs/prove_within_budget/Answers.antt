use Rattle.std.proofs.Common.{◌≡◌, ◌⊎◌, subst}
use Rattle.victor_words.specs.declared.form.Form.TheVariants.{Prove}
use Rattle.victor_run.proofs.Completed.{by_form}
use Rattle.run_callers.proofs.Proved.{is_done, of_some}
use Rattle.run_callers.proofs.prove_within_budget.Goals as goal

pub returns : goal.returns
returns g c = λ nodes reach table format front bytes p written told game cheap unread unwritten.
    let outcome = c.run.ensures.outcome in
    let ran = by_form _ outcome.0 _ _ _ _ outcome.1 written outcome.3 in
    let ended : (c.run.result ≡ 0) ⊎ (c.run.result ≡ 8) =
    of_some _ bytes _ told (c.run.ensures.complete (Prove nodes reach front table format) written unread unwritten) p game cheap in
    (ran.ending, ran.status_is, is_done ran.ending (subst (λ status. (status ≡ 0) ⊎ (status ≡ 8)) ran.status_is ended))
