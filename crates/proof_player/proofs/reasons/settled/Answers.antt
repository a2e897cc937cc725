use Rattle.std.proofs.Common.{sym, ◌∙◌}
use Rattle.proof_text.specs.Lemma.{ByMirror}
use Rattle.proof_player.proofs.Settled.{within, numbered, step}
use Rattle.proof_player.proofs.reasons.settled.Goals as goal

pub reason-requires-clause-to : goal.reason-requires-clause-to
reason-requires-clause-to c = (within c.args.book.now c.loop-next.at c.loop-next.invariant.lemma).1

pub loop-next-smaller : goal.loop-next-smaller
loop-next-smaller c =
    let ls = c.args.book.now in
    let lemma = c.loop-next.invariant.lemma in
    let is = numbered ls c.loop-next.at (ByMirror c.in-Mirror.next) (within ls c.loop-next.at lemma).0 c.in-Mirror.ensures.value in
    (step ls c.loop-next.at c.in-Mirror.next c.loop-next.board lemma is).lower

pub loop-next-preserved : goal.loop-next-preserved
loop-next-preserved c =
    let ls = c.args.book.now in
    let lemma = c.loop-next.invariant.lemma in
    let is = numbered ls c.loop-next.at (ByMirror c.in-Mirror.next) (within ls c.loop-next.at lemma).0 c.in-Mirror.ensures.value in
    let step = step ls c.loop-next.at c.in-Mirror.next c.loop-next.board lemma is in
    record { lemma = step.lemma; same = sym step.same ∙ c.loop-next.invariant.same }

pub reason-requires-2 : goal.reason-requires-2
reason-requires-2 c = let bound = within c.args.book.now c.loop-next.at c.loop-next.invariant.lemma in record { from = bound.0; to = bound.1 }
