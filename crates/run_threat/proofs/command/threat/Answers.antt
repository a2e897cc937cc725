use Rattle.std.proofs.Common.{ℕ, false, List, Err, [], ◌∷◌, refl, sym, ap, ◌∙◌, subst, append-nil, arith}
use Rattle.std.specs.Io.KnownBytes.{Appends}
use Rattle.std.proofs.KnownBytes.{Appends-nil}
use Rattle.std.proofs.lemmas.Result.{err_from_is_err_and}
use Rattle.device_rules.specs.Devices.{AppendsPrefix}
use Rattle.device_rules.proofs.DeviceLaws.{Rose_before}
use Rattle.play_text.specs.Play.{NoThreat}
use Rattle.threat_text.specs.Threats.{threat_line, no_threat_line, first_move}
use Rattle.threat_text.specs.Told.{IsTold}
use Rattle.run_frame.proofs.Owed.{read_status, unwritten_status}
use Rattle.run_turns.specs.declared.game_end.GameStop.TheVariants as stops
use Rattle.run_turns.proofs.Plays.{reading_stops, opening_ends, opening_cut, turns_play}
use Rattle.run_turns.proofs.Starting.{game_stops, game_caused}
use Rattle.run_threat.specs.Threatens.{threat_form, head_status, most_threat_lines}
use Rattle.run_threat.specs.Turns.{threat_stands, player_turn}
use Rattle.run_threat.proofs.Ends.{threat_laws, threat_owes}
use Rattle.run_threat.proofs.Heads.{threat_starts, threat_cut, none_ends, none_cut}
use Rattle.run_threat.proofs.Read.{game_none}
use Rattle.run_threat.proofs.command.threat.Goals as goal

-- ---- no game

pub returns-in-Err : goal.returns-in-Err
returns-in-Err g c =
    let why = c.in-Err.why in
    let game = c.in-Err.ensures in
    threat_owes _ _ _ _
    (reading_stops threat_form IsTold most_threat_lines threat_laws _ _ _ _ _ _ c.new-lines.ensures (stops.Input why) (Appends-nil _) (λ none is. omega arith)
    (λ is. game.waiting (cc is)) (game_stops threat_form (omega arith) game_none _ _ _ _ why game.answer (λ is. game.unread (ap Err is))))
    (λ is. game_caused _ _ _ _ why game.answer (read_status why is)) (λ is. absurd (unwritten_status why is))

-- ---- a threat

pub returns-in_err-put_line-in-Some : goal.returns-in_err-put_line-in-Some
returns-in_err-put_line-in-Some g c =
    let same = err_from_is_err_and c.from_residual.result c.from_residual.ensures.1 in
    let threat = c.in-Some.threat in
    let line = threat_line threat.group threat.pairs in
    let cut = c.in_err-put_line-in-Some.ensures in
    let Put : List ℕ → Type 0 = AppendsPrefix false (g.O.Sink.written c.args.out.now) (g.O.Sink.written c.put_line.new.out) in
    rw (same.1, same.2) (threat_owes _ _ _ _
    (opening_cut threat_form IsTold most_threat_lines threat_laws _ _ _ _ _ _ c.new-lines.ensures (line ∷ []) (omega arith)
    (subst Put (c.as_slice.ensures.value ∙ c.threat_line.ensures ∙ sym (append-nil line)) cut.written)
    (threat_cut _ _ c.in-Ok.root c.in-Ok.ensures.answer threat (sym c.in-Some.is ∙ c.first.ensures.first)))
    (λ is. absurd (cc is)) (λ is. cut.cause.failed refl))

pub returns-in_ok-put_line-in-Some : goal.returns-in_ok-put_line-in-Some
returns-in_ok-put_line-in-Some g c =
    let threat = c.in-Some.threat in
    let made = c.new-player.ensures in
    let turns = c.play_turns.ensures in
    let put = subst (Appends (g.O.Sink.written c.args.out.now) (g.O.Sink.written c.put_line.new.out)) (c.as_slice.ensures.value ∙ c.threat_line.ensures)
    c.in_ok-put_line-in-Some.ensures.written in
    threat_owes _ _ _ c.play_turns.result
    (turns_play threat_form IsTold most_threat_lines threat_laws threat_stands player_turn c.new-player.result first_move _ _ _ _ _ _ _ _ _ _ made.few c.new-lines.ensures
    (threat_starts _ _ c.in-Ok.root c.in-Ok.ensures.answer threat (sym c.in-Some.is ∙ c.first.ensures.first) c.new-player.result _ _ made.value put)
    c.play_turns.result turns.plays turns.ended turns.waiting)
    (λ is. Rose_before _ _ _ c.in-Ok.ensures.later (turns.read_fault head_status is))
    (λ is. Rose_before _ _ _ c.in_ok-put_line-in-Some.ensures.cause.later (turns.write_fault head_status is))

-- ---- or none

pub returns-in_err-put_line-in-None : goal.returns-in_err-put_line-in-None
returns-in_err-put_line-in-None g c =
    let same = err_from_is_err_and c.from_residual-in_err-put_line-in-None.result c.from_residual-in_err-put_line-in-None.ensures.1 in
    let cut = c.in_err-put_line-in-None.ensures in
    rw (same.1, same.2) (threat_owes _ _ _ _
    (opening_cut threat_form IsTold most_threat_lines threat_laws _ _ _ _ _ _ c.new-lines.ensures (no_threat_line ∷ []) (omega arith) cut.written
    (none_cut _ _ c.in-Ok.root c.in-Ok.ensures.answer (sym c.in-None.is ∙ c.first.ensures.first)))
    (λ is. absurd (cc is)) (λ is. cut.cause.failed refl))

pub returns-in_ok-put_line-in-None : goal.returns-in_ok-put_line-in-None
returns-in_ok-put_line-in-None g c =
    threat_owes _ _ _ _
    (opening_ends threat_form IsTold most_threat_lines threat_laws _ _ _ _ _ _ c.new-lines.ensures _ NoThreat (no_threat_line ∷ []) refl (omega arith)
    (omega arith) c.in_ok-put_line-in-None.ensures.written
    (none_ends _ _ c.in-Ok.root c.in-Ok.ensures.answer (sym c.in-None.is ∙ c.first.ensures.first)))
    (λ is. absurd (cc is)) (λ is. absurd (cc is))
