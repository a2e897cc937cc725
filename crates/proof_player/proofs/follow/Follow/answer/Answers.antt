use Rattle.std.proofs.Common.{ap, ◌∙◌}
use Rattle.proof_player.specs.Playing.{reply_for}
use Rattle.proof_player.proofs.Going.{ended_following, has_ended, can_answer, answer_room, answered_following, has_answered}
use Rattle.proof_player.proofs.follow.Follow.answer.Goals as goal

pub invariant_of-self : goal.invariant_of-self
invariant_of-self c = ended_following c.self.inside _ c.self.view_is c.self.invariant c.args.c c.in_ok-now.now _ c.play.ensures
    c.in_ok-now.was _ c.ended.ensures _ c.is_some.ensures c.if-is_some.true

pub returns-then-is_some-clause-ok : goal.returns-then-is_some-clause-ok
returns-then-is_some-clause-ok c = has_ended c.self.inside _ c.self.view_is c.self.invariant c.args.c c.in_ok-now.now _
    c.play.ensures c.in_ok-now.was _ c.ended.ensures _ c.is_some.ensures c.if-is_some.true

pub go_on-column-requires : goal.go_on-column-requires
go_on-column-requires c = can_answer c.self.inside _ c.self.view_is c.self.invariant c.args.c c.in_ok-now.now _ c.play.ensures
    c.in_ok-now.was _ c.ended.ensures _ c.is_some.ensures c.if-is_some.false

pub after-last-requires : goal.after-last-requires
after-last-requires c = answer_room c.self.inside _ c.self.view_is c.self.invariant c.args.c c.in_ok-now.now _ c.play.ensures
    c.in_ok-now.was _ c.ended.ensures _ c.is_some.ensures c.if-is_some.false c.go_on-column.result.0 c.go_on-column.new.place
    c.go_on-column.result.1 c.go_on-column.ensures.answer

pub invariant_of-self-2 : goal.invariant_of-self-2
invariant_of-self-2 c = answered_following c.self.inside _ c.self.view_is c.self.invariant c.args.c c.in_ok-now.now _
    c.play.ensures c.in_ok-now.was _ c.ended.ensures _ c.is_some.ensures c.if-is_some.false c.go_on-column.result.0 c.go_on-column.new.place
    c.go_on-column.result.1 c.go_on-column.ensures.answer c.after-last.result c.after-last.ensures c.go_on-column.ensures.session

pub returns-clause-ok : goal.returns-clause-ok
returns-clause-ok c = has_answered c.self.inside _ c.self.view_is c.self.invariant c.args.c c.in_ok-now.now _ c.play.ensures
    c.in_ok-now.was _ c.ended.ensures _ c.is_some.ensures c.if-is_some.false c.go_on-column.result.0 c.go_on-column.new.place
    c.go_on-column.result.1 c.go_on-column.ensures.answer c.after-last.result c.after-last.ensures c.of-reply.result
    (c.of-reply.ensures ∙ ap (λ e. reply_for c.self.inside.holder e c.go_on-column.result.0) c.ended-2.ensures)
