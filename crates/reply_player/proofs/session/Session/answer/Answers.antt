use Rattle.std.proofs.Common.{◌≡◌, sym, ap, ◌∙◌, subst}
use Rattle.game_rules.specs.Position.{end_of, after_move}
use Rattle.reply_player.specs.Playing.{Playing, reply_for, HasAnswered}
use Rattle.reply_player.specs.declared.session.Reply.{Reply}
use Rattle.board_bits.proofs.MovesMade.{move_made}
use Rattle.reply_player.proofs.Duels.{answers, moved_to}
use Rattle.reply_player.proofs.session.Session.answer.Goals as goal

pub reply-requires : goal.reply-requires
reply-requires c =
    let q = c.self.inside.stands in
    let made = move_made q c.in_ok-now.now c.args.c (sym c.play.ensures ∙ c.in_ok-now.was) in
    moved_to c.self.inside.plan q c.in_ok-now.now c.args.c c.unwrap-last.result c.self.invariant.reached made.0 made.1
    (sym c.playable.ensures ∙ c.unwrap-last.ensures)

pub returns-clause-ok : goal.returns-clause-ok
returns-clause-ok c =
    let q = c.self.inside.stands in
    let plan = c.self.inside.plan in
    let made = move_made q c.in_ok-now.now c.args.c (sym c.play.ensures ∙ c.in_ok-now.was) in
    let next = c.after-self-inside.result in
    let next_is = c.after-self-inside.ensures ∙ ap (after_move c.in_ok-now.now) c.column-reply.ensures in
    let given : c.of.result ≡ reply_for (end_of next) c.reply.result.0 = c.of.ensures ∙ ap (λ end. reply_for end c.column-reply.result) c.ended.ensures
    ∙ ap (reply_for (end_of next)) c.column-reply.ensures in
    let From : Playing → Type 0 = λ old. HasAnswered old (record { plan = plan; stands = next }) c.args.c c.of.result in
    let By : Reply → Type 0 = λ reply. HasAnswered (record { plan = plan; stands = q }) (record { plan = plan; stands = next }) c.args.c reply in
    subst From c.self.view_is (subst By (sym given)
    (answers plan q c.in_ok-now.now next c.args.c c.unwrap-last.result c.reply.result c.self.invariant made.0 made.1
    (sym c.playable.ensures ∙ c.unwrap-last.ensures) c.reply.ensures.reply next_is))
