use Rattle.std.proofs.Common.{◌≡◌, ◌+◌, Ok, Err, ap, ◌∙◌, subst}
use Rattle.std.proofs.lemmas.Result.{err_from_is_err_and}
use Rattle.game_rules.specs.declared.Side.TheVariants.{Black}
use Rattle.proof_text.specs.declared.Verdict.TheVariants.{Draw}
use Rattle.deep_search.specs.Search.{moment}
use Rattle.run_questions.specs.Questions.{AsksSide, Asks}
use Rattle.run_questions.specs.SizedFronts.{slots_of}
use Rattle.run_questions.proofs.Asking.{asks_one, asks_black, asks_draw, same_stop}
use Rattle.deep_search.specs.declared.solving.SearchStop.TheVariants.{Spent}
use Rattle.run_questions.proofs.questions.ask_black.Goals as goal

pub returns-in_err-black-clause-asked : goal.returns-in_err-black-clause-asked
returns-in_err-black-clause-asked g c = λ nodes before within white.
    let same = err_from_is_err_and c.from_residual.result c.from_residual.ensures.1 in
    let most = c.args.lemmas.now + c.args.budget.now in
    let black = subst (λ r. AsksSide c.args.version c.args.position.now Black c.args.reach (slots_of c.args.front.now) white.asked.shown most
    (moment c.args.table.now (g.O.Sink.written c.args.out.now)) (moment c.ask_side.new.table (g.O.Sink.written c.ask_side.new.out)) c.ask_side.new.lemmas r)
    c.in_err-black.was (c.ask_side.ensures.asked white.asked.shown white.asked.counted white.asked.fits) in
    rw (same.1 ∙ ap (λ e. Err e) same.2) (asks_one c.args.version c.args.position.now nodes c.args.reach
    (slots_of c.args.front.now) _ _ _ _ _ _ c.args.lemmas.now
    white.answer white.most white.asked white.is_no most c.ask_side.new.lemmas within c.in_err-black.field-0.0 black)

pub returns-in_err-black-clause-spent : goal.returns-in_err-black-clause-spent
returns-in_err-black-clause-spent g c spent =
    let same = err_from_is_err_and c.from_residual.result c.from_residual.ensures.1 in
    let is_stop : c.from_residual.result ≡ Err c.in_err-black.field-0.0 = same.1 ∙ ap (λ e. Err e) same.2 in
    c.ask_side.ensures.spent (c.in_err-black.was ∙ ap (λ e. Err e) (same_stop c.from_residual.result c.in_err-black.field-0.0 Spent is_stop spent))

pub returns-then-black-clause-asked : goal.returns-then-black-clause-asked
returns-then-black-clause-asked g c = λ nodes before within white.
    let most = c.args.lemmas.now + c.args.budget.now in
    let black = subst (λ r. AsksSide c.args.version c.args.position.now Black c.args.reach (slots_of c.args.front.now) white.asked.shown most
    (moment c.args.table.now (g.O.Sink.written c.args.out.now)) (moment c.ask_side.new.table (g.O.Sink.written c.ask_side.new.out)) c.ask_side.new.lemmas r)
    c.in_ok-black.was (c.ask_side.ensures.asked white.asked.shown white.asked.counted white.asked.fits) in
    asks_black c.args.version c.args.position.now nodes c.args.reach
    (slots_of c.args.front.now) _ _ _ _ _ _ c.args.lemmas.now white.answer white.most white.asked white.is_no
    most c.ask_side.new.lemmas within c.in_ok-black.black black c.to_move.result c.won_by.result c.if-black.true c.to_move.ensures c.won_by.ensures

pub returns-clause-asked : goal.returns-clause-asked
returns-clause-asked g c = λ nodes before within white.
    let most = c.args.lemmas.now + c.args.budget.now in
    let slots = slots_of c.args.front.now in
    let black = subst (λ r. AsksSide c.args.version c.args.position.now Black c.args.reach slots white.asked.shown most
    (moment c.args.table.now (g.O.Sink.written c.args.out.now)) (moment c.ask_side.new.table (g.O.Sink.written c.ask_side.new.out)) c.ask_side.new.lemmas r)
    c.in_ok-black.was (c.ask_side.ensures.asked white.asked.shown white.asked.counted white.asked.fits) in
    subst (λ lemma. Asks c.args.version c.args.position.now nodes c.args.reach slots before.bytes (g.O.Sink.written c.ask_side.new.out)
    (Ok (Draw lemma c.in_ok-black.black.lemma))) white.is_lemma
    (asks_draw c.args.version c.args.position.now nodes c.args.reach slots _ _ _ _ _ _ c.args.lemmas.now white.answer white.most white.asked white.is_no most
    c.ask_side.new.lemmas within c.in_ok-black.black black c.if-black.false)
