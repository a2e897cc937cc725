use Rattle.std.proofs.Common.{Some, is_some, not, sym, ap, ◌∙◌, refl}
use Rattle.game_rules.specs.Questions.{side_asked}
use Rattle.game_rules.specs.Value.{win_of, same_end}
use Rattle.game_rules.specs.Mirror.{mirror}
use Rattle.game_rules.proofs.ImageValues.{value_mirrored}
use Rattle.game_rules.proofs.Values.{value_at_end}
use Rattle.rule_chooser.specs.Written.{written_list}
use Rattle.deep_search.specs.Search.{version_for}
use Rattle.deep_search.proofs.Tables.{true_same, fits_same, same_then}
use Rattle.deep_search.proofs.Plans.{plan_none, some_open, solved_lost, plan_reason}
use Rattle.deep_search.proofs.Moves.{end_told}
use Rattle.deep_search.proofs.Proving.{solves_found, solves_entered, end_reason}
use Rattle.deep_search.proofs.solving.closed_here.Goals as goal
use Rattle.deep_search.proofs.solving.closed_here.Goals.{else-is_none-via-then-is_none+else-is_planned, else-is_none-via-else-is_none}

pub returns-in-Some-clause-wrote : goal.returns-in-Some-clause-wrote
returns-in-Some-clause-wrote g c root known along many fits =
    solves_found root c.args.position.now c.args.aim.now.question c.args.aim.now.reach
    (version_for c.args.aim.now.mirror) known _ c.args.table.now c.look_up.new.table (g.L.LemmaWriter.count c.args.lemmas.now)
    c.in-Some.kept
    c.look_up.ensures.same fits (sym c.look_up.ensures.found ∙ c.in-Some.is) many

pub put_lemma-requires-in-Some-ended-clause-true_now : goal.put_lemma-requires-in-Some-ended-clause-true_now
put_lemma-requires-in-Some-ended-clause-true_now g c =
    let side = side_asked c.args.aim.now.question in let end = c.in-Some-ended.end in
    end_told c.eq-yes.result c.side.result side c.win.result end c.eq-yes.ensures c.win.ensures c.side.ensures
    ∙ ap (same_end (win_of side)) (sym (value_at_end c.args.position.now end (sym c.requires.ended ∙ c.in-Some-ended.is)))

pub returns-in-Some-ended-clause-wrote : goal.returns-in-Some-ended-clause-wrote
returns-in-Some-ended-clause-wrote g c root known along many fits =
    let p = c.args.position.now in let side = side_asked c.args.aim.now.question in let end = c.in-Some-ended.end in
    solves_entered root p c.args.aim.now.question c.args.aim.now.reach (version_for c.args.aim.now.mirror) known _ _ _ _ c.put_lemma-in-Some-ended.result
    (same_then _ _ _ c.look_up.ensures.same c.look_up_image.ensures.same) refl
    (c.put_lemma-in-Some-ended.ensures.wrote root known along many (fits_same c.args.table.now c.look_up_image.new.table
    (same_then _ _ _ c.look_up.ensures.same c.look_up_image.ensures.same) known fits)
    (end_reason known p side c.eq-yes.result end (sym c.requires.ended ∙ c.in-Some-ended.is)
    (end_told c.eq-yes.result c.side.result side c.win.result end c.eq-yes.ensures c.win.ensures c.side.ensures)))

pub put_lemma-requires-clause-true_now : goal.put_lemma-requires-clause-true_now
put_lemma-requires-clause-true_now g c =
    solved_lost c.args.aim.now.reach (side_asked c.args.aim.now.question) c.args.position.now (sym c.is_planned.ensures.solved ∙ c.if-is_planned.true)

pub returns-then-is_planned-clause-wrote : goal.returns-then-is_planned-clause-wrote
returns-then-is_planned-clause-wrote g c root known along many fits =
    let p = c.args.position.now in let question = c.args.aim.now.question in let reach = c.args.aim.now.reach in
    let version = version_for c.args.aim.now.mirror in
    solves_entered root p question reach version known _ _ _ _ c.put_lemma.result c.look_up.ensures.same refl
    (c.put_lemma.ensures.wrote root known along many (fits_same c.args.table.now c.look_up.new.table c.look_up.ensures.same known fits)
    (plan_reason known reach (side_asked question) p _ (c.if-is_planned.ensures.plan refl ∙ ap (λ list. Some (written_list list)) (sym c.plan.ensures.value))))

pub put_lemma-requires-in-Some-look_up_image-clause-true_now : goal.put_lemma-requires-in-Some-look_up_image-clause-true_now
put_lemma-requires-in-Some-look_up_image-clause-true_now g c =
    let p = c.args.position.now in let question = c.args.aim.now.question in
    let image = true_same c.args.table.now c.look_up.new.table c.look_up.ensures.same (g.L.LemmaWriter.count c.args.lemmas.now) c.requires.entries (mirror p) question
    c.in-Some-look_up_image.kept c.in-Some-look_up_image.ensures.found in
    image.answer ∙ ap (same_end (win_of (side_asked question))) (value_mirrored p)

pub put_lemma-requires-in-Some-look_up_image-clause-planned : goal.put_lemma-requires-in-Some-look_up_image-clause-planned
put_lemma-requires-in-Some-look_up_image-clause-planned g c =
    let reach = c.args.aim.now.reach in let side = side_asked c.args.aim.now.question in
    sym (plan_none reach side c.args.position.now (elim c.else-is_none.branch [
      | else-is_none-via-then-is_none+else-is_planned w ↦ sym w.is_planned.ensures.solved ∙ w.if-is_planned.false
      | else-is_none-via-else-is_none w ↦ some_open reach side c.args.position.now
          (ap is_some (sym c.requires.ended) ∙ c.is_none.ensures ∙ ap not w.if-is_none.false)
    ]))

pub returns-in-Some-look_up_image-clause-wrote : goal.returns-in-Some-look_up_image-clause-wrote
returns-in-Some-look_up_image-clause-wrote g c root known along many fits =
    let p = c.args.position.now in let question = c.args.aim.now.question in
    let same = same_then c.args.table.now c.look_up.new.table c.look_up_image.new.table c.look_up.ensures.same c.look_up_image.ensures.same in
    solves_entered root p question c.args.aim.now.reach (version_for c.args.aim.now.mirror) known _ _ _ _ c.put_lemma-in-Some-look_up_image.result same refl
    (c.put_lemma-in-Some-look_up_image.ensures.wrote root known along many (fits_same c.args.table.now c.look_up_image.new.table same known fits)
    (fits_same c.args.table.now c.look_up.new.table c.look_up.ensures.same known fits (mirror p) question c.in-Some-look_up_image.kept
    c.in-Some-look_up_image.ensures.found))
