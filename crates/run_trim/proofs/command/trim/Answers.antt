use Rattle.std.proofs.Common.{◌≡◌, subst}
use Rattle.device_rules.specs.Devices.{Rose}
use Rattle.device_rules.proofs.DeviceLaws.{Rose_before}
use Rattle.run_frame.specs.Streams.{streams}
use Rattle.run_frame.specs.declared.run_stop.RunStop.TheVariants.{Own}
use Rattle.run_proof.specs.Stops.{IsCausedBy}
use Rattle.run_proof.proofs.Judging.{caused_read, stop_unwritten}
use Rattle.run_trim.proofs.Ends.{book_ordered, book_named, trims_read, trims_stop, trim_owes}
use Rattle.run_trim.proofs.command.trim.Goals as goal

pub trim_proof-requires-clause-earlier : goal.trim_proof-requires-clause-earlier
trim_proof-requires-clause-earlier g c =
    let read = c.read_proof.new in
    book_ordered (streams g.S.Source.left g.S.Source.last_read g.O.Sink.written c.args.source.now read.source c.args.out.now read.out) _ read.taker
    c.in-Ok.proof c.in-Ok.ensures.judged

pub trim_proof-requires-clause-named : goal.trim_proof-requires-clause-named
trim_proof-requires-clause-named g c =
    let read = c.read_proof.new in
    book_named (streams g.S.Source.left g.S.Source.last_read g.O.Sink.written c.args.source.now read.source c.args.out.now read.out) _ read.taker
    c.in-Ok.proof c.in-Ok.ensures.judged

pub returns-in-Ok : goal.returns-in-Ok
returns-in-Ok g c =
    let proof = c.in-Ok.proof in
    let read = c.read_proof.new in
    trim_owes _ _ _ c.trim_proof.result (trims_read _ _ read.taker proof c.in-Ok.ensures.judged c.trim_proof.result c.trim_proof.ensures.puts)
    (λ is. absurd (c.trim_proof.ensures.read is))
    (λ is. Rose_before _ _ _ c.in-Ok.ensures.later (c.trim_proof.ensures.write_fault is))

pub returns-in-Err-Own : goal.returns-in-Err-Own
returns-in-Err-Own g c =
    let stop = c.in-Err-Own.stop in
    let read = c.read_proof.new in
    let read_rose = Rose (g.S.Source.faults c.args.source.now) (g.S.Source.faults read.source) in
    let put_rose = Rose (g.O.Sink.faults c.args.out.now) (g.O.Sink.faults read.out) in
    let cause = subst (IsCausedBy read_rose put_rose) c.in-Err-Own.field-0-is c.in-Err-Own.ensures.cause in
    rw c.in-Err-Own.field-0-is (trim_owes _ _ _ _
    (trims_stop (λ root ls. read.taker ≡ ls) _ c.in-Err-Own.field-0 stop c.in-Err-Own.field-0-is c.in-Err-Own.ensures.judged)
    (caused_read read_rose put_rose (Own stop) cause) (λ is. absurd (stop_unwritten stop is)))
