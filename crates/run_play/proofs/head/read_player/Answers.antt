use Rattle.std.proofs.Common.{Err, ap, arith}
use Rattle.std.proofs.lemmas.Result.{err_from_is_err_and}
use Rattle.run_turns.proofs.Starting.{game_stops, game_caused}
use Rattle.run_play.specs.Plays.{play_form}
use Rattle.run_play.proofs.Read.{game_none}
use Rattle.run_play.proofs.Judged.{plan_stops, plan_goes, few_turns, player_begins}
use Rattle.run_play.proofs.head.read_player.Goals as goal

pub returns-in_err-root-clause-answer : goal.returns-in_err-root-clause-answer
returns-in_err-root-clause-answer g c =
    let same = err_from_is_err_and c.from_residual.result c.from_residual.ensures.1 in
    rw (same.1, same.2) (game_stops play_form (omega arith) game_none _ _ _ _ c.in_err-root.field-0.0 c.in_err-root.ensures.answer
    (λ is. c.in_err-root.ensures.unread (ap Err is)))

pub returns-in_err-root-clause-caused : goal.returns-in_err-root-clause-caused
returns-in_err-root-clause-caused g c =
    let same = err_from_is_err_and c.from_residual.result c.from_residual.ensures.1 in
    rw (same.1, same.2) (λ is. game_caused _ _ _ _ c.in_err-root.field-0.0 c.in_err-root.ensures.answer (cc is))

pub returns-in_err-plan-clause-answer : goal.returns-in_err-plan-clause-answer
returns-in_err-plan-clause-answer g c =
    let same = err_from_is_err_and c.from_residual-in_err-plan.result c.from_residual-in_err-plan.ensures.1 in
    let stopped = c.in_err-plan.ensures in
    rw (same.1, same.2) (plan_stops _ _ _ c.in_ok-root.root c.in_ok-root.ensures.answer c.in_err-plan.field-0.0 stopped.stops stopped.answer)

pub returns-clause-answer : goal.returns-clause-answer
returns-clause-answer g c =
    let root = c.in_ok-root.root in
    let plan = c.in_ok-plan.plan in
    player_begins root plan c.new.result c.new.ensures c.in_ok-plan.ensures.at _ _
    (plan_goes _ _ _ root c.in_ok-root.ensures.answer (record { plan = plan; stands = root }) c.in_ok-plan.ensures.answer)

pub returns-clause-few : goal.returns-clause-few
returns-clause-few g c = few_turns c.in_ok-root.root c.in_ok-plan.plan c.new.result c.new.ensures c.in_ok-plan.ensures.at
