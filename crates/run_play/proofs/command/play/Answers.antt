use Rattle.std.proofs.Common.{Err, refl, ap, arith}
use Rattle.std.proofs.KnownBytes.{Appends-nil}
use Rattle.std.proofs.lemmas.Result.{err_from_is_err_and}
use Rattle.device_rules.proofs.DeviceLaws.{Rose_before}
use Rattle.play_text.specs.Play.{first_move}
use Rattle.play_text.specs.Told.{IsTold}
use Rattle.run_turns.proofs.Plays.{reading_stops, turns_play, read_stop, unwritten_stop}
use Rattle.run_turns.proofs.Starting.{nothing_opened}
use Rattle.run_play.specs.Plays.{play_form, head_status, most_play_lines}
use Rattle.run_play.specs.Turns.{plan_stands, plan_turn}
use Rattle.run_play.proofs.Ends.{play_laws, play_owes}
use Rattle.run_play.proofs.command.play.Goals as goal

pub returns-in_err-player : goal.returns-in_err-player
returns-in_err-player g c =
    let same = err_from_is_err_and c.from_residual.result c.from_residual.ensures.1 in
    let stop = c.in_err-player.field-0.0 in
    let stopped = c.in_err-player.ensures in
    rw (same.1, same.2) (play_owes _ _ _ _
    (reading_stops play_form IsTold most_play_lines play_laws _ _ _ _ _ _ c.new-lines.ensures stop (Appends-nil _) (λ none is. omega arith)
    (λ is. stopped.waiting (ap Err is)) stopped.answer)
    (λ is. stopped.caused (ap Err (read_stop head_status stop (λ none is. cc is) is)))
    (λ is. absurd (unwritten_stop head_status stop (λ none is. cc is) is)))

pub returns : goal.returns
returns g c =
    let begun = c.in_ok-player in
    let turns = c.play_turns.ensures in
    play_owes _ _ _ c.play_turns.result
    (turns_play play_form IsTold most_play_lines play_laws plan_stands plan_turn begun.player first_move _ _ _ _ _ _ _ _ _ _ begun.ensures.few
    c.new-lines.ensures (nothing_opened play_form plan_stands plan_turn begun.player first_move _ _ _ refl begun.ensures.answer)
    c.play_turns.result turns.plays turns.ended turns.waiting)
    (λ is. Rose_before _ _ _ begun.ensures.later (turns.read_fault head_status is)) (λ is. turns.write_fault head_status is)
