use Rattle.device_rules.specs.Devices.{Rose}
use Rattle.victor_run.specs.Outcome.{Completes}
use Rattle.victor_run.proofs.Completed.{for_form}
use Rattle.victor_run.proofs.command.run.Goals as goal

pub returns-in-Some-clause-complete : goal.returns-in-Some-clause-complete
returns-in-Some-clause-complete g c = λ form written.
    for_form _ c.in-Some.form form c.in-Some.ensures.value written
    (λ form. Completes form (Rose (g.S.Source.faults c.args.source.now) (g.S.Source.faults c.run_form.new.source))
    (Rose (g.O.Sink.faults c.args.out.now) (g.O.Sink.faults c.run_form.new.out)) (g.S.Source.left c.args.source.now) c.run_form.result)
    c.run_form.ensures.complete

pub returns-in-None-clause-complete : goal.returns-in-None-clause-complete
returns-in-None-clause-complete g c = λ form written. absurd (c.in-None.ensures.value form written)
