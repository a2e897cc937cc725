use Rattle.std.proofs.Common.{◌≡◌, IfOk, is_ok, ap, ◌∙◌, sym, subst}
use Rattle.device_rules.specs.Devices.{AppendsPrefix}
use Rattle.game_rules.proofs.Games.{game_is_read}
use Rattle.walk_rules.specs.Walk.{solved}
use Rattle.explain_text.specs.Explanation.{explanation}
use Rattle.run_frame.specs.declared.run_stop.RunStop.TheVariants.{Own}
use Rattle.run_frame.specs.Streams.{Streams}
use Rattle.run_frame.proofs.Inputs.{of_game, no_game}
use Rattle.run_frame.proofs.Owed.{read_status, unwritten_status}
use Rattle.run_explain.specs.Explains.{explained_status}
use Rattle.std.specs.Prelude.{Err}
use Rattle.run_explain.proofs.Ends.{explains_game, explain_owes, written_never, written_failed}
use Rattle.run_explain.proofs.command.explain.Goals as goal

pub returns-in-Ok : goal.returns-in-Ok
returns-in-Ok g c =
    let input = g.S.Source.left c.args.source.now in
    let left = g.S.Source.left c.read_game_input.new.source in
    let last_read = g.S.Source.last_read c.read_game_input.new.source in
    let old = g.O.Sink.written c.args.out.now in
    let s : Streams = record { input = input; left = left; last_read = last_read; old = old; new = g.O.Sink.written c.write_choice.new.out } in
    let game = c.in-Ok.game in
    let found = subst (λ p. IfOk c.write_choice.result (λ found. found ≡ solved p c.args.reach)) c.position.ensures.position c.write_choice.ensures.found in
    let written = subst (λ p. AppendsPrefix (is_ok c.write_choice.result) (g.O.Sink.written c.args.out.now) (g.O.Sink.written c.write_choice.new.out)
    (explanation p c.args.reach)) c.position.ensures.position c.write_choice.ensures.written in
    explain_owes c.args.reach s _ _ c.explained_of.result (of_game s _ game c.in-Ok.ensures.takes (λ taken is_text ended.
    rw c.explained_of.ensures (explains_game c.args.reach s taken game.position ended (game_is_read taken game is_text) c.write_choice.result found written)))
    (λ is. absurd (written_never c.write_choice.result (sym (ap explained_status c.explained_of.ensures) ∙ is)))
    (λ is. c.write_choice.ensures.cause.failed (written_failed c.write_choice.result (sym (ap explained_status c.explained_of.ensures) ∙ is)))

pub returns-in-Err : goal.returns-in-Err
returns-in-Err g c = explain_owes c.args.reach _ _ _ (Err (Own c.in-Err.stop)) (no_game _ _ _ _ c.in-Err.stop c.in-Err.ensures.takes)
    (λ is. c.in-Err.ensures.cause (ap Err (read_status c.in-Err.stop is))) (λ is. absurd (unwritten_status c.in-Err.stop is))
