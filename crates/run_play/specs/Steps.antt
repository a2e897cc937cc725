-- Black's man in a turn of `play`, and what is played by the bytes that were not given yet.
use Rattle.std.specs.Prelude.{ℕ, List}
use Rattle.game_rules.specs.Position.{Position}
use Rattle.proof_text.specs.Texts.{pieces, lines_in}
use Rattle.plan_lines.specs.Planned.{members}
use Rattle.reply_player.specs.Playing.{Playing}
use Rattle.reply_player.specs.declared.session.Reply.{Reply}
use Rattle.reply_player.specs.declared.session.Reply.TheVariants.{BlackWon, Filled, Move}
use Rattle.play_text.specs.Play.{Played, play_from, play_lines}
use Rattle.run_turns.specs.declared.turn.TurnEnd.{TurnEnd}
use Rattle.run_turns.specs.declared.turn.TurnEnd.TheVariants.{GoesOn, Won, Full}

-- the column of Black's man, and what it ended
abbrev pub man_of : Reply → ℕ × TurnEnd
man_of (BlackWon column) = (column, Won)
man_of (Filled column) = (column, Full)
man_of (Move column) = (column, GoesOn)

-- what is played by the bytes behind the game
unfoldable pub played_at : Position → List ℕ → Played
played_at root bytes = play_lines root (lines_in (pieces bytes))

-- what is played by the bytes behind the plan, or behind some of White's lines, the next of which has this number
unfoldable pub played_from : Playing → ℕ → List ℕ → Played
played_from s at bytes = play_from (members s.plan) s.stands at (lines_in (pieces bytes))
