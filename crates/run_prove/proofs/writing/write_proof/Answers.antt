use Rattle.std.proofs.Common.{◌<◌, false, Ok, Err, refl, ap, ◌∙◌, subst}
use Rattle.std.specs.Io.KnownBytes.{Appends}
use Rattle.std.proofs.lemmas.Result.{err_from_is_err_and}
use Rattle.device_rules.specs.Devices.{AppendsPrefix}
use Rattle.game_rules.specs.Cost.{cost}
use Rattle.game_rules.proofs.Games.{game_in_grammar}
use Rattle.proof_text.specs.declared.Verdict.TheVariants.{Unknown}
use Rattle.run_questions.specs.SizedFronts.{slots_of}
use Rattle.run_questions.specs.Planned.{solved_within}
use Rattle.run_questions.specs.SearchStop.TheVariants.{Spent, WriteFault}
use Rattle.run_questions.proofs.Asking.{asked_of}
use Rattle.run_prove.proofs.Standing.{writes_head, writes_lemmas, writes_verdict}
use Rattle.run_prove.proofs.writing.write_proof.Goals as goal

pub returns-in_err-put_all-clause-written : goal.returns-in_err-put_all-clause-written
returns-in_err-put_all-clause-written g c = λ text is_text.
    let same = err_from_is_err_and c.from_residual.result c.from_residual.ensures.1 in
    let game = c.args.game.now in
    let head = c.as_slice.ensures.value ∙ c.head_of.ensures in
    rw same.1 (writes_head c.args.version c.args.nodes c.args.reach (slots_of c.args.front.now) text game.position
    (game_in_grammar text game is_text) c.requires.nodes _ _
    same.0
    (subst (AppendsPrefix false (g.O.Sink.written c.args.out.now) (g.O.Sink.written c.put_all.new.out)) head c.in_err-put_all.ensures.bytes))

pub returns-in-Ok-clause-written : goal.returns-in-Ok-clause-written
returns-in-Ok-clause-written g c = λ text is_text.
    let game = c.args.game.now in
    let head = c.as_slice.ensures.value ∙ c.head_of.ensures in
    let asks = asked_of c.args.version _ game.position _ _ _ _ _ _ _ c.position.ensures.position refl c.in-Ok.ensures.asked in
    writes_verdict c.args.version c.args.nodes c.args.reach (slots_of c.args.front.now) text game.position (game_in_grammar text game is_text) c.requires.nodes
    _ _ (Ok c.in-Ok.verdict) asks c.in-Ok.verdict asks.verdict.0 _ _ c.write_verdict.result (asks.both_remarked refl)
    (λ unknown. absurd (asks.verdict.1 unknown))
    (subst (Appends (g.O.Sink.written c.args.out.now) (g.O.Sink.written c.put_all.new.out)) head c.in_ok-put_all.ensures.bytes)
    asks.text c.write_verdict.ensures.verdict c.write_verdict.ensures.written

pub returns-in-Err-Spent-clause-written : goal.returns-in-Err-Spent-clause-written
returns-in-Err-Spent-clause-written g c = λ text is_text.
    let game = c.args.game.now in
    let head = c.as_slice.ensures.value ∙ c.head_of.ensures in
    let stop = ap (λ stop. Err stop) c.in-Err-Spent.field-0-is in
    let asks = asked_of c.args.version _ game.position _ _ _ _ _ _ (Err Spent) c.position.ensures.position stop c.in-Err-Spent.ensures.asked in
    let short = subst (λ p. c.args.nodes < cost (solved_within c.args.reach) p) c.position.ensures.position
    (c.in-Err-Spent.ensures.spent (ap Err c.in-Err-Spent.field-0-is)) in
    writes_verdict c.args.version c.args.nodes c.args.reach (slots_of c.args.front.now) text game.position (game_in_grammar text game is_text) c.requires.nodes
    _ _ (Err Spent) asks Unknown tt _ _ c.write_verdict-in-Err-Spent.result (asks.both_remarked refl) (λ unknown. short)
    (subst (Appends (g.O.Sink.written c.args.out.now) (g.O.Sink.written c.put_all.new.out)) head c.in_ok-put_all.ensures.bytes)
    asks.text c.write_verdict-in-Err-Spent.ensures.verdict c.write_verdict-in-Err-Spent.ensures.written

pub returns-in-Err-WriteFault-clause-written : goal.returns-in-Err-WriteFault-clause-written
returns-in-Err-WriteFault-clause-written g c = λ text is_text.
    let game = c.args.game.now in
    let head = c.as_slice.ensures.value ∙ c.head_of.ensures in
    let stop = ap (λ stop. Err stop) c.in-Err-WriteFault.field-0-is in
    let asks = asked_of c.args.version _ game.position _ _ _ _ _ _ (Err WriteFault) c.position.ensures.position stop c.in-Err-WriteFault.ensures.asked in
    writes_lemmas c.args.version c.args.nodes c.args.reach (slots_of c.args.front.now) text game.position
    (game_in_grammar text game is_text) c.requires.nodes _ _ _ _ asks
    (subst (Appends (g.O.Sink.written c.args.out.now) (g.O.Sink.written c.put_all.new.out)) head c.in_ok-put_all.ensures.bytes)
