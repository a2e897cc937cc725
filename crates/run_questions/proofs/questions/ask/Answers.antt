use Rattle.std.proofs.Common.{◌≡◌, ◌+◌, ◌≤◌, false, Err, refl, sym, ap, ◌∙◌, subst, arith}
use Rattle.std.proofs.lemmas.Result.{err_from_is_err_and}
use Rattle.game_rules.specs.Value.{wins}
use Rattle.game_rules.specs.declared.Side.TheVariants.{White}
use Rattle.game_rules.proofs.Costs.{cost_first, cost_both}
use Rattle.deep_search.specs.Planned.{solved_within}
use Rattle.deep_search.specs.Search.{moment}
use Rattle.deep_search.proofs.Tables.{true_if_empty}
use Rattle.run_questions.specs.Questions.{AnswersNo, Asks}
use Rattle.run_questions.specs.SizedFronts.{slots_of}
use Rattle.run_questions.proofs.Asking.{asked_first, asks_none, asks_white, same_stop}
use Rattle.deep_search.specs.declared.solving.SearchStop.TheVariants.{Spent}
use Rattle.run_questions.proofs.questions.ask.Goals as goal

pub returns-in_err-white-clause-asked : goal.returns-in_err-white-clause-asked
returns-in_err-white-clause-asked g c =
    let same = err_from_is_err_and c.from_residual.result c.from_residual.ensures.1 in
    let white = asked_first c.args.version _ _ _ _ c.args.nodes _ _ _ _ _ _ c.new-lemmas.ensures c.requires.empty c.in_err-white.was c.ask_side.ensures.asked in
    rw (same.1 ∙ ap (λ e. Err e) same.2) (asks_none c.args.version c.args.position.now c.args.nodes c.args.reach
    (slots_of c.args.front.now) _ _ _ _ c.ask_side.new.lemmas _
    (omega (arith, c.new-lemmas.ensures)) c.in_err-white.field-0.0 white (λ spent. c.ask_side.ensures.spent (c.in_err-white.was ∙ ap (λ e. Err e) spent)))

pub returns-in_err-white-clause-spent : goal.returns-in_err-white-clause-spent
returns-in_err-white-clause-spent g c spent =
    let same = err_from_is_err_and c.from_residual.result c.from_residual.ensures.1 in
    let is_stop : c.from_residual.result ≡ Err c.in_err-white.field-0.0 = same.1 ∙ ap (λ e. Err e) same.2 in
    let short = c.ask_side.ensures.spent (c.in_err-white.was ∙ ap (λ e. Err e) (same_stop c.from_residual.result c.in_err-white.field-0.0 Spent is_stop spent))
    in
    omega (arith, short, cost_first (solved_within c.args.reach) c.args.position.now)

pub returns-then-white-clause-asked : goal.returns-then-white-clause-asked
returns-then-white-clause-asked g c =
    let white = asked_first c.args.version _ _ _ _ c.args.nodes _ _ _ _ _ _ c.new-lemmas.ensures c.requires.empty c.in_ok-white.was c.ask_side.ensures.asked in
    asks_white c.args.version c.args.position.now c.args.nodes c.args.reach (slots_of c.args.front.now) _ _ _ _ c.ask_side.new.lemmas _
    (omega (arith, c.new-lemmas.ensures))
    c.in_ok-white.white c.to_move.result c.won_by.result white c.if-white.true c.to_move.ensures (sym c.in_ok-white.ensures.answer ∙ c.if-white.true)
    c.won_by.ensures

pub returns-clause-asked : goal.returns-clause-asked
returns-clause-asked g c =
    let p = c.args.position.now in
    let before = moment c.args.table.now (g.O.Sink.written c.args.out.now) in
    let held = moment c.ask_side.new.table (g.O.Sink.written c.ask_side.new.out) in
    let white = asked_first c.args.version _ _ _ _ c.args.nodes _ _ _ _ _ _ c.new-lemmas.ensures c.requires.empty c.in_ok-white.was c.ask_side.ensures.asked in
    let no : AnswersNo c.args.version p c.args.reach (slots_of c.args.front.now) c.in_ok-white.white.lemma before held c.ask_side.new.lemmas =
    record { most = c.new-lemmas.result + c.args.nodes; answer = c.in_ok-white.white; is_lemma = refl; is_no = c.if-white.false; asked = white } in
    let same_slots = c.turn_to_black.ensures.slots ∙ c.ask_side.ensures.slots in
    let within : c.ask_side.new.lemmas + c.ask_side.new.budget ≤ c.args.nodes = omega (arith, c.in_ok-white.ensures.few, c.new-lemmas.ensures) in
    subst (λ slots. Asks c.args.version p c.args.nodes c.args.reach slots (g.O.Sink.written c.args.out.now)
    (g.O.Sink.written c.ask_black.new.out) c.ask_black.result)
    same_slots (c.ask_black.ensures.asked c.args.nodes before within
    (subst (λ slots. AnswersNo c.args.version p c.args.reach slots c.in_ok-white.white.lemma before held c.ask_side.new.lemmas) (sym same_slots) no))

pub returns-clause-spent : goal.returns-clause-spent
returns-clause-spent g c spent =
    let lost : wins White c.args.position.now ≡ false = sym c.in_ok-white.ensures.answer ∙ c.if-white.false in
    omega (arith, c.ask_black.ensures.spent spent, c.in_ok-white.ensures.left, cost_both (solved_within c.args.reach) c.args.position.now lost)

pub ask_side-requires-clause-entries : goal.ask_side-requires-clause-entries
ask_side-requires-clause-entries g c = true_if_empty c.args.table.now c.new-lemmas.result c.requires.empty

pub ask_black-requires-clause-front : goal.ask_black-requires-clause-front
ask_black-requires-clause-front g c = c.turn_to_black.ensures.front White c.args.reach c.ask_side.ensures.front
