use Rattle.std.proofs.Common.{◌-◌, None, Ok, sym, subst}
use Rattle.std.proofs.lemmas.Result.{err_from_is_err_and}
use Rattle.device_rules.specs.Devices.{Rose}
use Rattle.device_rules.proofs.DeviceLaws.{Rose_before}
use Rattle.game_rules.specs.Position.{Position}
use Rattle.io_ports.specs.Reading.{pending, Reads}
use Rattle.run_proof.proofs.Judging.{first_caused}
use Rattle.run_proof.proofs.Steps.{caused_more}
use Rattle.run_follow.proofs.ToVerdict.{head_read, first_within, right_kept, right_within, right_read, right_proof, stop_kept, stop_within, stop_read}
use Rattle.run_follow.specs.Reading.{IsRightProof, ReadsProof}
use Rattle.run_follow.proofs.verdict.read_to_verdict.Goals as goal

-- ---- the head

pub returns-in_err-head-clause-answer : goal.returns-in_err-head-clause-answer
returns-in_err-head-clause-answer g c =
    let same = err_from_is_err_and c.from_residual.result c.from_residual.ensures.1 in
    rw (same.1, same.2) (head_read _ _ _ _ c.in_err-head.field-0.0 c.in_err-head.ensures.first c.in_err-head.ensures.answer c.args.book.now)

pub returns-in_err-head-clause-few : goal.returns-in_err-head-clause-few
returns-in_err-head-clause-few g c =
    let same = err_from_is_err_and c.from_residual.result c.from_residual.ensures.1 in
    rw (same.1, same.2) (first_within c.in_err-head.field-0.0 c.in_err-head.ensures.first)

pub returns-in_err-head-clause-cause : goal.returns-in_err-head-clause-cause
returns-in_err-head-clause-cause g c =
    let same = err_from_is_err_and c.from_residual.result c.from_residual.ensures.1 in
    rw (same.1, same.2) (first_caused None _ _ _ _ _
    (Rose (g.O.Sink.faults c.args.out.now) (g.O.Sink.faults c.args.out.now)) c.in_err-head.field-0.0 c.in_err-head.ensures.answer)

-- ---- the lines behind it

pub returns-in_err-read-clause-answer : goal.returns-in_err-read-clause-answer
returns-in_err-read-clause-answer g c =
    let same = err_from_is_err_and c.from_residual-in_err-read.result c.from_residual-in_err-read.ensures.1 in
    let stop = c.in_err-read.field-0.0 in
    rw (same.1, same.2) (stop_read c.in_ok-head.head _ _ _ c.in_ok-head.ensures.answer c.read_lines.new.lines.ended _ _ c.read_lines.new.taker stop _ _ _ c.in_err-read.ensures.read
    (caused_more _ _ _ _ stop (λ rose. Rose_before _ _ _ c.in_ok-head.ensures.later rose) (λ rose. rose) c.in_err-read.ensures.cause))

pub returns-in_err-read-clause-few : goal.returns-in_err-read-clause-few
returns-in_err-read-clause-few g c =
    let same = err_from_is_err_and c.from_residual-in_err-read.result c.from_residual-in_err-read.ensures.1 in
    rw (same.1, same.2) (stop_within c.in_ok-head.head _ _ _ c.in_ok-head.ensures.answer c.read_lines.new.lines.ended _ _ c.read_lines.new.taker c.in_err-read.field-0.0 c.in_err-read.ensures.read)

pub returns-in_err-read-clause-kept : goal.returns-in_err-read-clause-kept
returns-in_err-read-clause-kept g c =
    stop_kept c.in_ok-head.head _ _ _ c.in_ok-head.ensures.answer c.read_lines.new.lines.ended _ _ c.read_lines.new.taker c.in_err-read.field-0.0 c.in_err-read.ensures.read

pub returns-in_err-read-clause-cause : goal.returns-in_err-read-clause-cause
returns-in_err-read-clause-cause g c =
    let same = err_from_is_err_and c.from_residual-in_err-read.result c.from_residual-in_err-read.ensures.1 in
    rw (same.1, same.2) (caused_more _ _ _ _ c.in_err-read.field-0.0 (λ rose. Rose_before _ _ _ c.in_ok-head.ensures.later rose) (λ rose. rose)
    c.in_err-read.ensures.cause)

pub returns-clause-answer : goal.returns-clause-answer
returns-clause-answer g c =
    let read = c.in_ok-read.read in
    let a = pending c.args.lines.now (g.S.Source.left c.args.source.now) (g.S.Source.last_read c.args.source.now) in
    let b = pending c.read_lines.new.lines (g.S.Source.left c.read_lines.new.source) (g.S.Source.last_read c.read_lines.new.source) in
    let before = g.S.Source.faults c.args.source.now in
    let after = g.S.Source.faults c.read_lines.new.source in
    let P : Position → Type 0 = λ root. Reads a b (ReadsProof c.read_lines.new.taker before after (Ok (record { root = root; verdict = read.accepted.verdict; at = read.end - 1 }))) in
    subst P (sym c.position.ensures.position)
    (right_read c.in_ok-head.head _ _ _ c.in_ok-head.ensures.answer c.read_lines.new.lines.ended _ _ c.read_lines.new.taker read c.in_ok-read.ensures.read before after)

pub returns-clause-right : goal.returns-clause-right
returns-clause-right g c =
    subst (λ root. IsRightProof root c.read_lines.new.taker c.in_ok-read.read.accepted.verdict) (sym c.position.ensures.position)
    (right_proof c.in_ok-head.head _ _ _ c.in_ok-head.ensures.answer c.read_lines.new.lines.ended _ _ c.read_lines.new.taker c.in_ok-read.read c.in_ok-read.ensures.read)

pub returns-clause-few : goal.returns-clause-few
returns-clause-few g c =
    right_within c.in_ok-head.head _ _ _ c.in_ok-head.ensures.answer c.read_lines.new.lines.ended _ _ c.read_lines.new.taker c.in_ok-read.read c.in_ok-read.ensures.read

pub returns-clause-kept : goal.returns-clause-kept
returns-clause-kept g c =
    right_kept c.in_ok-head.head _ _ _ c.in_ok-head.ensures.answer c.read_lines.new.lines.ended _ _ c.read_lines.new.taker c.in_ok-read.read c.in_ok-read.ensures.read
