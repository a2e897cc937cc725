use Rattle.std.proofs.Common.{◌≡◌, ◌<◌, true, Some, sym, ap, ◌∙◌, subst}
use Rattle.game_rules.specs.Position.{Position, has_room, after_move}
use Rattle.game_rules.proofs.Ends.{legal_parts}
use Rattle.proof_player.specs.Playing.{FollowState}
use Rattle.run_turns.specs.Turns.{turn_line, HasRoom}
use Rattle.run_follow.specs.Turns.{man_of, turn_of, player_turn, turns_left}
use Rattle.run_follow.proofs.Turn.{turn_made, reply_can, fewer_turns}
use Rattle.run_follow.proofs.follow_player.FollowPlayerPlayer.answer.Goals as goal

pub turn_of-requires-clause-theirs : goal.turn_of-requires-clause-theirs
turn_of-requires-clause-theirs c =
    subst (λ (now : Position). has_room now c.args.column ≡ true) (sym c.now.ensures)
    (legal_parts c.self.inside.follow.now c.args.column c.in_ok-reply.ensures.ok.legal).1

pub turn_of-requires-clause-mine : goal.turn_of-requires-clause-mine
turn_of-requires-clause-mine c =
    subst (λ (now : Position). HasRoom (after_move now c.args.column) (man_of c.in_ok-reply.reply).0) (sym c.now.ensures)
    (reply_can c.self.inside.follow c.answer.new.self c.args.column c.in_ok-reply.reply c.in_ok-reply.ensures.ok)

pub returns-clause-answered : goal.returns-clause-answered
returns-clause-answered c =
    let s = c.self.inside.follow in
    let t = c.answer.new.self in
    let reply = c.in_ok-reply.reply in
    let made = c.turn_of.ensures ∙ ap (λ (now : Position). turn_of now (Some c.args.column) reply) c.now.ensures in
    let From : FollowState → Type 0 = λ old. player_turn old c.args.column ≡ Some (turn_line c.turn_of.result, t) in
    subst From c.self.view_is (turn_made s t c.args.column reply c.in_ok-reply.ensures.ok ∙ ap (λ turn. Some (turn_line turn, t)) (sym made))

pub returns-clause-fewer : goal.returns-clause-fewer
returns-clause-fewer c =
    let From : FollowState → Type 0 = λ old. turns_left c.answer.new.self < turns_left old in
    subst From c.self.view_is (fewer_turns c.self.inside.follow c.answer.new.self c.args.column c.in_ok-reply.reply c.in_ok-reply.ensures.ok)
