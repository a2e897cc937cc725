use Rattle.std.proofs.Common.{false, Some, refl, ◌∙◌, subst}
use Rattle.std.specs.Io.KnownBytes.{Appends}
use Rattle.std.proofs.KnownBytes.{Keeps-refl}
use Rattle.std.proofs.lemmas.Result.{err_from_is_err_and}
use Rattle.device_rules.specs.Devices.{AppendsPrefix, Rose}
use Rattle.device_rules.proofs.DeviceLaws.{Rose_before}
use Rattle.io_ports.specs.Reading.{pending}
use Rattle.proof_text.specs.declared.Version.TheVariants.{One}
use Rattle.run_frame.proofs.Taken.{from_fresh}
use Rattle.run_frame.specs.declared.run_stop.RunStop.TheVariants.{Own}
use Rattle.run_proof.proofs.Judging.{first_caused, caused_read, stop_unwritten}
use Rattle.run_proof.specs.Stops.{IsCausedBy}
use Rattle.run_upgrade.proofs.Ends.{ends_first, ends_head, ends_own, ends_write, ends_done, ends_last, upgrade_owes}
use Rattle.run_upgrade.specs.Writing.{HasPut}
use Rattle.run_upgrade.proofs.command.upgrade.Goals as goal

pub returns-in_err-head : goal.returns-in_err-head
returns-in_err-head g c =
    let same = err_from_is_err_and c.from_residual.result c.from_residual.ensures.1 in
    let stop = c.in_err-head.field-0.0 in
    let out_rose = Rose (g.O.Sink.faults c.args.out.now) (g.O.Sink.faults c.args.out.now) in
    let cause = first_caused (Some One) _ _ _ _ _ out_rose stop c.in_err-head.ensures.answer in
    rw (same.1, same.2) (upgrade_owes _ _ _ _ (ends_first _ _ _ _ _ stop _ _ c.in_err-head.ensures.first
    (from_fresh _ _ _ _ _ c.new-lines.ensures c.in_err-head.ensures.answer) (Keeps-refl (g.O.Sink.written c.args.out.now)))
    (caused_read _ out_rose (Own stop) cause) (λ is. absurd (stop_unwritten stop is)))

pub returns-in_err-put_all : goal.returns-in_err-put_all
returns-in_err-put_all g c =
    let same = err_from_is_err_and c.from_residual-in_err-put_all.result c.from_residual-in_err-put_all.ensures.1 in
    let old = g.O.Sink.written c.args.out.now in
    let put = subst (AppendsPrefix false old (g.O.Sink.written c.put_all.new.out)) (c.as_slice.ensures.value ∙ c.head_of.ensures)
    c.in_err-put_all.ensures.bytes in
    rw (same.1, same.2) (upgrade_owes _ _ _ _ (ends_head _ _ c.in_ok-head.head _
    (pending c.read_head.new.lines (g.S.Source.left c.read_head.new.source) (g.S.Source.last_read c.read_head.new.source)) old old _
    (from_fresh _ _ _ _ _ c.new-lines.ensures c.in_ok-head.ensures.answer) put)
    (λ is. absurd (cc is)) (λ is. c.in_err-put_all.ensures.cause.failed refl))

pub returns-in_err-put_verdict-in-Ok : goal.returns-in_err-put_verdict-in-Ok
returns-in_err-put_verdict-in-Ok g c =
    let same = err_from_is_err_and c.from_residual-in_err-put_verdict-in-Ok.result c.from_residual-in_err-put_verdict-in-Ok.ensures.1 in
    let old = g.O.Sink.written c.args.out.now in
    let put = subst (Appends old (g.O.Sink.written c.put_all.new.out)) (c.as_slice.ensures.value ∙ c.head_of.ensures) c.in_ok-put_all.ensures.bytes in
    let read = c.in-Ok.ensures.read in
    rw (same.1, same.2) (upgrade_owes _ _ _ _ (ends_last _ _ c.in_ok-head.head _ _ old _ _
    (from_fresh _ _ _ _ _ c.new-lines.ensures c.in_ok-head.ensures.answer) put read.0 _ c.in-Ok.read read.1 read.4
    c.in_err-put_verdict-in-Ok.ensures.written)
    (λ is. absurd (cc is))
    (λ is. Rose_before _ _ _ c.in_ok-put_all.ensures.cause.later (Rose_before _ _ _ c.in-Ok.ensures.later.1
    (c.in_err-put_verdict-in-Ok.ensures.cause.failed refl))))

pub returns-in-Ok : goal.returns-in-Ok
returns-in-Ok g c =
    let old = g.O.Sink.written c.args.out.now in
    let put = subst (Appends old (g.O.Sink.written c.put_all.new.out)) (c.as_slice.ensures.value ∙ c.head_of.ensures) c.in_ok-put_all.ensures.bytes in
    let read = c.in-Ok.ensures.read in
    upgrade_owes _ _ _ _ (ends_done _ _ c.in_ok-head.head _ _ old _ _
    (from_fresh _ _ _ _ _ c.new-lines.ensures c.in_ok-head.ensures.answer) put read.0 _ c.in-Ok.read read.1 read.4 read.3
    c.in_ok-put_verdict-in-Ok.ensures.written)
    (λ is. absurd (cc is)) (λ is. absurd (cc is))

pub returns-in_err-flush-in-Err-Own : goal.returns-in_err-flush-in-Err-Own
returns-in_err-flush-in-Err-Own g c =
    let same = err_from_is_err_and c.from_residual-in_err-flush-in-Err-Own.result c.from_residual-in_err-flush-in-Err-Own.ensures.1 in
    let old = g.O.Sink.written c.args.out.now in
    let put = subst (Appends old (g.O.Sink.written c.put_all.new.out)) (c.as_slice.ensures.value ∙ c.head_of.ensures) c.in_ok-put_all.ensures.bytes in
    let head = c.in_ok-head.head in
    let after = c.read_lines.new in
    let stopped = ends_own _ _ head _ _ old _ _ (from_fresh _ _ _ _ _ c.new-lines.ensures c.in_ok-head.ensures.answer)
    (HasPut after.taker.index after.taker.lemmas head.game.position) after.lines.ended put c.in-Err-Own.field-0 (g.O.Sink.written after.out)
    (g.S.Source.faults c.read_head.new.source) (g.S.Source.faults after.source)
    (Rose (g.O.Sink.faults c.put_all.new.out) (g.O.Sink.faults after.out)) c.in-Err-Own.stop
    c.in-Err-Own.field-0-is c.in-Err-Own.ensures.read c.in-Err-Own.ensures.cause c.flush.ensures.bytes in
    rw (same.1, same.2) (upgrade_owes _ _ _ _ stopped.1
    (λ is. absurd (cc is))
    (λ is. Rose_before _ _ _ c.in_ok-put_all.ensures.cause.later (Rose_before _ _ _ c.in-Err-Own.ensures.later.1
    (c.in_err-flush-in-Err-Own.ensures.cause.failed refl))))

pub returns-in-Err-Own : goal.returns-in-Err-Own
returns-in-Err-Own g c =
    let old = g.O.Sink.written c.args.out.now in
    let put = subst (Appends old (g.O.Sink.written c.put_all.new.out)) (c.as_slice.ensures.value ∙ c.head_of.ensures) c.in_ok-put_all.ensures.bytes in
    let head = c.in_ok-head.head in
    let after = c.read_lines.new in
    let put_rose = Rose (g.O.Sink.faults c.put_all.new.out) (g.O.Sink.faults after.out) in
    let read_rose = Rose (g.S.Source.faults c.read_head.new.source) (g.S.Source.faults after.source) in
    let stop = c.in-Err-Own.stop in
    let stopped = ends_own _ _ head _ _ old _ _ (from_fresh _ _ _ _ _ c.new-lines.ensures c.in_ok-head.ensures.answer)
    (HasPut after.taker.index after.taker.lemmas head.game.position) after.lines.ended put c.in-Err-Own.field-0 (g.O.Sink.written after.out)
    (g.S.Source.faults c.read_head.new.source) (g.S.Source.faults after.source) put_rose stop
    c.in-Err-Own.field-0-is c.in-Err-Own.ensures.read c.in-Err-Own.ensures.cause c.flush.ensures.bytes in
    let cause = subst (IsCausedBy read_rose put_rose) c.in-Err-Own.field-0-is c.in-Err-Own.ensures.cause in
    upgrade_owes _ _ _ _ stopped.0
    (λ is. Rose_before _ _ _ c.in_ok-head.ensures.later (caused_read read_rose put_rose (Own stop) cause is)) (λ is. absurd (stop_unwritten stop is))

pub returns : goal.returns
returns g c =
    let old = g.O.Sink.written c.args.out.now in
    let put = subst (Appends old (g.O.Sink.written c.put_all.new.out)) (c.as_slice.ensures.value ∙ c.head_of.ensures) c.in_ok-put_all.ensures.bytes in
    let head = c.in_ok-head.head in
    let after = c.read_lines.new in
    let put_rose = Rose (g.O.Sink.faults c.put_all.new.out) (g.O.Sink.faults after.out) in
    let read_rose = Rose (g.S.Source.faults c.read_head.new.source) (g.S.Source.faults after.source) in
    upgrade_owes _ _ _ _ (ends_write _ _ head _ _ old _ _ (from_fresh _ _ _ _ _ c.new-lines.ensures c.in_ok-head.ensures.answer)
    (HasPut after.taker.index after.taker.lemmas head.game.position) after.lines.ended put c.in-Err-Write.field-0
    c.in-Err-Write.field-0-is c.in-Err-Write.ensures.read)
    (λ is. absurd (cc is))
    (λ is. Rose_before _ _ _ c.in_ok-put_all.ensures.cause.later
    (subst (IsCausedBy read_rose put_rose) c.in-Err-Write.field-0-is c.in-Err-Write.ensures.cause))
