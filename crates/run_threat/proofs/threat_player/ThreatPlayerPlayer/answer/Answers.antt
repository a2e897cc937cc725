use Rattle.std.proofs.Common.{◌≡◌, ◌/◌, ◌<◌, Some, sym, ap, ◌∙◌, subst}
use Rattle.board_bits.proofs.MovesMade.{move_made}
use Rattle.game_rules.specs.Position.{end_of, after_move, empty_count}
use Rattle.run_turns.specs.Turns.{turn_line}
use Rattle.run_threat.specs.Turns.{ThreatGame, player_turn, turn_end, turns_left}
use Rattle.run_threat.proofs.Turn.{moved_to, line_told, turn_answered, fewer_left}
use Rattle.run_threat.proofs.threat_player.ThreatPlayerPlayer.answer.Goals as goal

pub reply-white-requires : goal.reply-white-requires
reply-white-requires c =
    let q = c.self.inside.stands in
    let made = move_made q c.in_ok-now.now c.args.column (sym c.play.ensures ∙ c.in_ok-now.was) in
    moved_to c.self.inside.threat q c.in_ok-now.now c.args.column c.unwrap-last.result c.self.invariant made.0 made.1
    (sym c.playable.ensures ∙ c.unwrap-last.ensures)

pub returns-clause-answered : goal.returns-clause-answered
returns-clause-answered c =
    let q = c.self.inside.stands in
    let made = move_made q c.in_ok-now.now c.args.column (sym c.play.ensures ∙ c.in_ok-now.was) in
    let next_is = c.after-self-inside.ensures ∙ ap (after_move c.in_ok-now.now) c.column.ensures in
    let told = line_told c.unwrap-last.result c.reply-white.result (end_of c.after-self-inside.result) c.turn_end.result (c.turn_end.ensures ∙ ap turn_end c.ended.ensures) in
    let From : ThreatGame → Type 0 = λ old. player_turn old c.args.column ≡ Some (
      turn_line (record { theirs = Some c.unwrap-last.result; mine = Some c.reply-white.result; end = c.turn_end.result }),
      record { threat = c.self.inside.threat; stands = c.after-self-inside.result },
    ) in
    subst From c.self.view_is (turn_answered c.self.inside.threat q c.args.column c.self.invariant made.0 c.in_ok-now.now c.after-self-inside.result
    c.unwrap-last.result c.reply-white.result made.1
    (sym c.playable.ensures ∙ c.unwrap-last.ensures) c.reply-white.ensures.reply next_is _ told)

pub returns-clause-fewer : goal.returns-clause-fewer
returns-clause-fewer c =
    let q = c.self.inside.stands in
    let made = move_made q c.in_ok-now.now c.args.column (sym c.play.ensures ∙ c.in_ok-now.was) in
    let next_is = c.after-self-inside.ensures ∙ ap (after_move c.in_ok-now.now) c.column.ensures in
    let From : ThreatGame → Type 0 = λ old. empty_count c.after-self-inside.result / 2 < turns_left old in
    subst From c.self.view_is (fewer_left c.self.inside.threat q c.args.column c.self.invariant made.0 c.in_ok-now.now c.after-self-inside.result
    c.unwrap-last.result c.reply-white.result made.1
    (sym c.playable.ensures ∙ c.unwrap-last.ensures) c.reply-white.ensures.reply next_is)
