-- What a player by a plan makes of White's moves.
use Rattle.std.specs.Prelude.{ℕ, ◌/◌, List, option_map}
use Rattle.game_rules.specs.Board.{Square}
use Rattle.game_rules.specs.Position.{Position, empty_count, after_move}
use Rattle.plan_lines.specs.Planned.{members}
use Rattle.play_text.specs.Play.{turn_text, answer_to}
use Rattle.play_text.specs.Play.{Turn}
use Rattle.run_play.specs.declared.plan_player.PlanPlayer.{PlanPlayer}

-- the position that the game has come to
abbrev pub plan_stands : PlanPlayer → Position
plan_stands player = player.session.stands

-- the line of a turn, and the player after Black's man
abbrev pub turn_with : PlanPlayer → ℕ → Square → List ℕ × PlanPlayer
turn_with player column reply =
    let q = player.session.stands in
    (turn_text q column reply, record { session = record { plan = player.session.plan; stands = after_move (after_move q column) reply.0 } })

-- White's man, and then the plan's answer
abbrev pub plan_turn : PlanPlayer → ℕ → Turn PlanPlayer
plan_turn player column = option_map (turn_with player column) (answer_to (members player.session.plan) player.session.stands column)

-- each turn fills two squares
abbrev pub turns_left : PlanPlayer → ℕ
turns_left player = empty_count player.session.stands / 2
