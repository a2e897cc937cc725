use Rattle.std.specs.Bool.{⊤}
use Rattle.std.proofs.Common.{Result, Ok, Err, IfSome, sym, ◌∙◌, subst}
use Rattle.std.proofs.lemmas.Option.{MatchOption-at_some, MatchOption-at_none}
use Rattle.std.proofs.lemmas.Result.{err_from_is_err_and}
use Rattle.device_rules.specs.Devices.{Rose}
use Rattle.cert_checker.specs.Checking.{IsAt}
use Rattle.proof_book.specs.Shape.{viewed}
use Rattle.run_frame.specs.declared.run_stop.RunStop.{RunStop}
use Rattle.run_proof.specs.declared.stop.ProofStop.{ProofStop}
use Rattle.run_proof.proofs.Steps.{line_taken, is_open, done_next, none_next, stop_next, caused_more, got_cause}
use Rattle.run_proof.proofs.Taking.{line_behind, may_take}
use Rattle.run_proof.proofs.lines.add_next.Goals as goal

pub returns-then-is_done-clause-read : goal.returns-then-is_done-clause-read
returns-then-is_done-clause-read g c = λ ls got many.
    done_next c.args.place.version (g.T.LemmaTaker.holds c.args.taker.now c.args.checker.now.stands.root) g.T.LemmaTaker.puts
    (record { stands = c.args.checker.now.stands; next = c.args.place.at; lemmas = ls }) _ c.args.place.until _ _ (sym c.is_done.ensures ∙ c.if-is_done.true) got

pub take_line-requires : goal.take_line-requires
take_line-requires g c =
    let next = MatchOption-at_some _ _ c.in-Ok-Some.line c.in-Ok-Some.field-0-is c.in-Ok-Some.ensures.answer in
    let there = subst (λ got. IfSome got (λ line. IsAt (viewed line) c.accept_next.new.checker.path)) c.in-Ok-Some.field-0-is c.in-Ok-Some.ensures.path in
    may_take c.args.place.version _ _ _ next.text _ _ c.position.ensures (g.T.LemmaTaker.holds c.args.taker.now) (viewed c.in-Ok-Some.line) next.accepted there
    c.requires.in_step

pub returns-in_err-take_line-in-Ok-Some-clause-read : goal.returns-in_err-take_line-in-Ok-Some-clause-read
returns-in_err-take_line-in-Ok-Some-clause-read g c = λ ls got many.
    let next = MatchOption-at_some _ _ c.in-Ok-Some.line c.in-Ok-Some.field-0-is c.in-Ok-Some.ensures.answer in
    let there = subst (λ got. IfSome got (λ line. IsAt (viewed line) c.accept_next.new.checker.path)) c.in-Ok-Some.field-0-is c.in-Ok-Some.ensures.path in
    let behind = line_behind c.args.place.version _ _ _ next.text _ _ c.position.ensures (viewed c.in-Ok-Some.line) next.accepted there ls many in
    let stop = c.in_err-take_line-in-Ok-Some.field-0.0 in
    let untaken : Result ⊤ (RunStop ProofStop) = Err stop in
    let same = err_from_is_err_and c.from_residual.result c.from_residual.ensures.1 in
    let taken = line_taken c.args.place.version (g.T.LemmaTaker.holds c.take_line.new.taker) g.T.LemmaTaker.puts
    (record { stands = c.args.checker.now.stands; next = c.args.place.at; lemmas = ls }) c.accept_next.new.checker.stands _ _ (viewed c.in-Ok-Some.line) next
    (g.O.Sink.written c.args.out.now) (g.O.Sink.written c.take_line.new.out) in
    rw (same.1, same.2) (taken c.args.place.until c.accept_next.new.lines.ended untaken
    (is_open c.args.place.until c.args.checker.now.stands (sym c.is_done.ensures ∙ c.if-is_done.false))
    (c.in_err-take_line-in-Ok-Some.ensures.taken _ ls got behind))

pub returns-in_err-take_line-in-Ok-Some-clause-cause : goal.returns-in_err-take_line-in-Ok-Some-clause-cause
returns-in_err-take_line-in-Ok-Some-clause-cause g c =
    let same = err_from_is_err_and c.from_residual.result c.from_residual.ensures.1 in
    rw (same.1, same.2) (caused_more _ _ _ _ c.in_err-take_line-in-Ok-Some.field-0.0 (λ never. absurd never) (λ rose. rose)
    c.in_err-take_line-in-Ok-Some.ensures.cause)

pub returns-in_ok-take_line-in-Ok-Some-clause-read : goal.returns-in_ok-take_line-in-Ok-Some-clause-read
returns-in_ok-take_line-in-Ok-Some-clause-read g c = λ ls got many.
    let next = MatchOption-at_some _ _ c.in-Ok-Some.line c.in-Ok-Some.field-0-is c.in-Ok-Some.ensures.answer in
    let there = subst (λ got. IfSome got (λ line. IsAt (viewed line) c.accept_next.new.checker.path)) c.in-Ok-Some.field-0-is c.in-Ok-Some.ensures.path in
    let behind = line_behind c.args.place.version _ _ _ next.text _ _ c.position.ensures (viewed c.in-Ok-Some.line) next.accepted there ls many in
    line_taken c.args.place.version (g.T.LemmaTaker.holds c.take_line.new.taker) g.T.LemmaTaker.puts
    (record { stands = c.args.checker.now.stands; next = c.args.place.at; lemmas = ls }) c.accept_next.new.checker.stands _ _ (viewed c.in-Ok-Some.line) next
    (g.O.Sink.written c.args.out.now) (g.O.Sink.written c.take_line.new.out)
    c.args.place.until c.accept_next.new.lines.ended (Ok c.in_ok-take_line-in-Ok-Some.field-0)
    (is_open c.args.place.until c.args.checker.now.stands (sym c.is_done.ensures ∙ c.if-is_done.false))
    (c.in_ok-take_line-in-Ok-Some.ensures.taken _ ls got behind)

pub returns-in-Ok-None-clause-read : goal.returns-in-Ok-None-clause-read
returns-in-Ok-None-clause-read g c = λ ls got many.
    none_next c.args.place.version (g.T.LemmaTaker.holds c.args.taker.now c.args.checker.now.stands.root) g.T.LemmaTaker.puts
    (record { stands = c.args.checker.now.stands; next = c.args.place.at; lemmas = ls }) _ _ _
    c.args.place.until (sym c.is_done.ensures ∙ c.if-is_done.false) _ _
    (MatchOption-at_none _ _ c.in-Ok-None.field-0-is c.in-Ok-None.ensures.answer) got

pub returns-in-Err-clause-read : goal.returns-in-Err-clause-read
returns-in-Err-clause-read g c = λ ls got many.
    stop_next c.args.place.version (g.T.LemmaTaker.holds c.args.taker.now c.args.checker.now.stands.root) g.T.LemmaTaker.puts
    (record { stands = c.args.checker.now.stands; next = c.args.place.at; lemmas = ls }) _ _ _
    c.args.place.until (sym c.is_done.ensures ∙ c.if-is_done.false) c.accept_next.new.checker.stands
    c.accept_next.new.lines.ended _ _ c.in-Err.stop c.in-Err.ensures.answer got

pub returns-in-Err-clause-cause : goal.returns-in-Err-clause-cause
returns-in-Err-clause-cause g c = got_cause _ _ _ _ _ _ _ (Rose (g.O.Sink.faults c.args.out.now) (g.O.Sink.faults c.args.out.now)) c.in-Err.stop c.in-Err.ensures.answer
