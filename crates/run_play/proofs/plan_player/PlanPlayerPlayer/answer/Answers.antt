use Rattle.std.proofs.Common.{◌≡◌, ℕ, true, Some, sym, ap, ◌∙◌, subst}
use Rattle.game_rules.specs.Position.{Position, has_room, after_move}
use Rattle.run_turns.specs.Turns.{turn_from}
use Rattle.run_turns.specs.declared.turn.TurnEnd.{TurnEnd}
use Rattle.run_play.proofs.Read.{white_room, black_room, turn_is, fewer_left}
use Rattle.run_play.proofs.plan_player.PlanPlayerPlayer.answer.Goals as goal

pub new-requires-clause-theirs : goal.new-requires-clause-theirs
new-requires-clause-theirs c = subst (λ (q : Position). has_room q c.args.column ≡ true) (sym c.now.ensures.value) (white_room _ _ _ _ c.in_ok-answer.ensures.ok)

pub new-requires-clause-mine : goal.new-requires-clause-mine
new-requires-clause-mine c =
    subst (λ (q : Position). has_room (after_move q c.args.column) c.man_of-black.result.0 ≡ true) (sym c.now.ensures.value)
    (subst (λ (man : ℕ × TurnEnd). has_room (after_move c.args.self.now.session.stands c.args.column) man.0 ≡ true) (sym c.man_of-black.ensures)
    (black_room _ _ _ _ c.in_ok-answer.ensures.ok))

pub returns-clause-answered : goal.returns-clause-answered
returns-clause-answered c =
    turn_is _ _ _ _ c.in_ok-answer.ensures.ok c.new.result
    (c.new.ensures ∙ ap (λ (q : Position). turn_from q (Some c.args.column) (Some c.man_of-black.result.0) c.man_of-black.result.1) c.now.ensures.value
    ∙ ap (λ (man : ℕ × TurnEnd). turn_from c.args.self.now.session.stands (Some c.args.column) (Some man.0) man.1) c.man_of-black.ensures)

pub returns-clause-fewer : goal.returns-clause-fewer
returns-clause-fewer c = fewer_left _ _ _ _ c.in_ok-answer.ensures.ok
