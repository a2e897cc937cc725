use Rattle.std.proofs.KnownBytes.{Keeps-refl}
use Rattle.std.proofs.lemmas.Result.{err_from_is_err_and}
use Rattle.device_rules.specs.Devices.{Rose}
use Rattle.device_rules.proofs.DeviceLaws.{Rose_before}
use Rattle.run_frame.proofs.Taken.{from_fresh}
use Rattle.run_proof.proofs.Judging.{first_caused, judged_head, judged_right, judged_stop}
use Rattle.run_proof.proofs.Steps.{caused_more}
use Rattle.run_proof.proofs.reading.read_proof.Goals as goal

pub returns-in_err-head-clause-judged : goal.returns-in_err-head-clause-judged
returns-in_err-head-clause-judged g c =
    let same = err_from_is_err_and c.from_residual.result c.from_residual.ensures.1 in
    rw (same.1, same.2) (judged_head c.args.asked (g.T.LemmaTaker.holds c.args.taker.now) g.T.LemmaTaker.puts c.requires.silent _ _ _ _ _ c.in_err-head.field-0.0 _ _ c.in_err-head.ensures.first
    (from_fresh _ _ _ _ _ c.new-lines.ensures c.in_err-head.ensures.answer) (Keeps-refl (g.O.Sink.written c.args.out.now)))

pub returns-in_err-head-clause-cause : goal.returns-in_err-head-clause-cause
returns-in_err-head-clause-cause g c =
    let same = err_from_is_err_and c.from_residual.result c.from_residual.ensures.1 in
    rw (same.1, same.2) (first_caused c.args.asked _ _ _ _ _
    (Rose (g.O.Sink.faults c.args.out.now) (g.O.Sink.faults c.args.out.now)) c.in_err-head.field-0.0 c.in_err-head.ensures.answer)

pub returns-in_err-read-clause-judged : goal.returns-in_err-read-clause-judged
returns-in_err-read-clause-judged g c =
    let same = err_from_is_err_and c.from_residual-in_err-read.result c.from_residual-in_err-read.ensures.1 in
    rw (same.1, same.2) (judged_stop c.args.asked (g.T.LemmaTaker.holds c.read_lines.new.taker) g.T.LemmaTaker.puts c.requires.silent _ _ _ _ _
    c.in_ok-head.head _ (from_fresh _ _ _ _ _ c.new-lines.ensures c.in_ok-head.ensures.answer) c.in_err-read.field-0.0 _ _ _ c.in_err-read.ensures.read
    c.in_err-read.ensures.cause)

pub returns-in_err-read-clause-cause : goal.returns-in_err-read-clause-cause
returns-in_err-read-clause-cause g c =
    let same = err_from_is_err_and c.from_residual-in_err-read.result c.from_residual-in_err-read.ensures.1 in
    rw (same.1, same.2) (caused_more _ _ _ _ c.in_err-read.field-0.0 (λ rose. Rose_before _ _ _ c.in_ok-head.ensures.later rose) (λ rose. rose)
    c.in_err-read.ensures.cause)

pub returns-clause-judged : goal.returns-clause-judged
returns-clause-judged g c =
    judged_right c.args.asked (g.T.LemmaTaker.holds c.read_lines.new.taker) g.T.LemmaTaker.puts c.requires.silent _ _ _ _ _
    c.in_ok-head.head _ (from_fresh _ _ _ _ _ c.new-lines.ensures c.in_ok-head.ensures.answer) c.in_ok-read.read c.in_ok-read.ensures.read
