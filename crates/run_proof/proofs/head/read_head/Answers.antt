use Rattle.std.proofs.lemmas.Result.{err_from_is_err_and}
use Rattle.run_proof.proofs.Heads.{first_stopped, head_read, game_stops}
use Rattle.run_proof.proofs.head.read_head.Goals as goal

pub returns-in_err-version-clause-answer : goal.returns-in_err-version-clause-answer
returns-in_err-version-clause-answer g c =
    let same = err_from_is_err_and c.from_residual.result c.from_residual.ensures.1 in
    let stopped = c.in_err-version.ensures in
    rw (same.1, same.2) (first_stopped _ _ _ _ _ c.in_err-version.field-0.0 stopped.first stopped.answer)

pub returns-in_err-game-clause-answer : goal.returns-in_err-game-clause-answer
returns-in_err-game-clause-answer g c =
    let same = err_from_is_err_and c.from_residual-in_err-game.result c.from_residual-in_err-game.ensures.1 in
    rw (same.1, same.2) (game_stops c.args.asked c.in_ok-version.version _ _ _ c.in_ok-version.ensures.answer _ _ _ c.in_err-game.field-0.0
    c.in_ok-version.ensures.later c.in_err-game.ensures.answer)

pub returns-clause-answer : goal.returns-clause-answer
returns-clause-answer g c = head_read c.args.asked c.in_ok-version.version _ _ _ c.in_ok-version.ensures.answer c.in_ok-game.game c.in_ok-game.ensures.answer
