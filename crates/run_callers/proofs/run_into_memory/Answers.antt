use Rattle.victor_run.specs.Outcome.{version_named}
use Rattle.victor_run.proofs.Completed.{by_form}
use Rattle.run_callers.proofs.Proved.{holds_proof}
use Rattle.run_callers.proofs.run_into_memory.Goals as goal

pub returns-clause-proved : goal.returns-clause-proved
returns-clause-proved g c = λ nodes reach table format front written ended.
    let outcome = c.run.ensures.outcome in
    let ran = by_form _ outcome.0 _ _ _ _ outcome.1 written outcome.3 in
    holds_proof (version_named format) _ nodes reach front _ _ _ _ c.run.result outcome.2 ran ended
