use Rattle.std.proofs.Common.{◌≡◌, ◌+◌, ◌-◌, false, true, Some, sym, ap, ◌∙◌, subst, arith}
use Rattle.std.specs.Io.KnownBytes.{Appends}
use Rattle.std.proofs.KnownBytes.{Appends-nil}
use Rattle.std.proofs.lemmas.Result.{err_from_is_err_and}
use Rattle.device_rules.specs.Devices.{AppendsPrefix}
use Rattle.proof_book.specs.Shape.{reason_viewed}
use Rattle.proof_book.specs.Entries.{reason_held}
use Rattle.tool_text.specs.Trim.{rank}
use Rattle.tool_text.proofs.Whole.{rank_most}
use Rattle.proof_tools.specs.Reach.{mark_at}
use Rattle.proof_tools.proofs.Agreeing.{lemma_lent, at_within}
use Rattle.proof_tools.proofs.Printing.{cites_marked, line_kept, line_none, rank_with}
use Rattle.proof_tools.proofs.printed.put_reached.Goals as goal

pub reason_anew-reason-requires-clause-marked : goal.reason_anew-reason-requires-clause-marked
reason_anew-reason-requires-clause-marked g c =
    let lent = lemma_lent c.args.book.now (c.args.n - 1) (reason_held c.reason.result) c.reason.ensures.value in
    cites_marked c.args.reach.now c.args.book.now c.args.n c.requires.from c.requires.earlier lent.0 lent.1 (reason_held c.reason.result) lent.2
    c.requires.closed (sym c.has.ensures ∙ c.if-has.true)

pub put-requires-clause-room : goal.put-requires-clause-room
put-requires-clause-room g c =
    omega (arith, c.requires.counted, rank_most (mark_at c.args.reach.now) (c.args.n - 1), c.requires.from, c.requires.to, c.requires.few)

pub returns-in_err-put-clause-written : goal.returns-in_err-put-clause-written
returns-in_err-put-clause-written g c =
    let same = err_from_is_err_and c.from_residual.result c.from_residual.ensures.1 in
    let lent = lemma_lent c.args.book.now (c.args.n - 1) (reason_held c.reason.result) c.reason.ensures.value in
    let marked = sym c.has.ensures ∙ c.if-has.true in
    let keep = mark_at c.args.reach.now in
    let line = line_kept c.args.reach.now c.args.book.now c.args.n c.requires.from c.requires.earlier lent.0 lent.1 c.path.result.now c.claim.result
    (reason_held c.reason.result) (reason_viewed c.view.result) c.path.ensures.value c.claim.ensures lent.2 (c.view.ensures ∙ c.reason_anew-reason.ensures) marked
    (c.args.lemmas.now + 1) (ap (λ k. k + 1) c.requires.counted ∙ sym (rank_with keep c.args.n c.requires.from marked)) in
    rw same.1 (subst (AppendsPrefix false (g.O.Sink.written c.args.out.now) (g.O.Sink.written c.put.new.out)) line c.in_err-put.ensures.written)

pub returns-in_ok-put-clause-written : goal.returns-in_ok-put-clause-written
returns-in_ok-put-clause-written g c =
    let lent = lemma_lent c.args.book.now (c.args.n - 1) (reason_held c.reason.result) c.reason.ensures.value in
    let marked = sym c.has.ensures ∙ c.if-has.true in
    let keep = mark_at c.args.reach.now in
    let line = line_kept c.args.reach.now c.args.book.now c.args.n c.requires.from c.requires.earlier lent.0 lent.1 c.path.result.now c.claim.result
    (reason_held c.reason.result) (reason_viewed c.view.result) c.path.ensures.value c.claim.ensures lent.2 (c.view.ensures ∙ c.reason_anew-reason.ensures) marked
    (c.args.lemmas.now + 1) (ap (λ k. k + 1) c.requires.counted ∙ sym (rank_with keep c.args.n c.requires.from marked)) in
    subst (Appends (g.O.Sink.written c.args.out.now) (g.O.Sink.written c.put.new.out)) line c.in_ok-put.ensures.written

pub returns-else-has-clause-written : goal.returns-else-has-clause-written
returns-else-has-clause-written g c =
    let old = g.O.Sink.written c.args.out.now in
    let there = at_within c.args.book.now (c.args.n - 1) (omega (arith, c.requires.from, c.requires.to)) in
    subst (Appends old old)
    (sym (line_none c.args.reach.now c.args.book.now c.args.n c.requires.from c.requires.earlier there.0 there.1 (sym c.has.ensures ∙ c.if-has.false)))
    (Appends-nil old)
