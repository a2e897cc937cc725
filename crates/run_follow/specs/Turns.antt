-- The turns of `follow`, and what a player by a proof makes of the other side's moves.
use Rattle.std.specs.Prelude.{ℕ, ◌+◌, ◌/◌, is_some, if◌then◌else◌, List, [], ◌∷◌, Option, Some, None, option_map}
use Rattle.game_rules.specs.Position.{Position, end_of, empty_count}
use Rattle.play_text.specs.Play.{Turn as Played}
use Rattle.follow_text.specs.Following.{Following}
use Rattle.follow_text.specs.Follow.{follow_turn}
use Rattle.proof_player.specs.Playing.{FollowState}
use Rattle.proof_player.specs.declared.follow.FollowReply.{FollowReply}
use Rattle.proof_player.specs.declared.follow.FollowReply.TheVariants.{Over, Won, Filled, Move}
use Rattle.run_turns.specs.Turns.{turn_line, turn_from}
use Rattle.run_turns.specs.declared.turn.Turn.{Turn}
use Rattle.run_turns.specs.declared.turn.TurnEnd.{TurnEnd}
use Rattle.run_turns.specs.declared.turn.TurnEnd.TheVariants as turns

-- the column of the holder's man, if it has one, and what was ended
abbrev pub man_of : FollowReply → Option ℕ × TurnEnd
man_of Over = (None, turns.Full)
man_of (Won column) = (Some column, turns.Won)
man_of (Filled column) = (Some column, turns.Full)
man_of (Move column) = (Some column, turns.GoesOn)

-- the turn from a position in which the other side's man goes into this column, if it has a man, and the holder replies
abbrev pub turn_of : Position → Option ℕ → FollowReply → Turn
turn_of before theirs reply = turn_from before theirs (man_of reply).0 (man_of reply).1

-- the line of the holder's first move at the root, where it has one
abbrev pub first_lines : Position → Option FollowReply → List (List ℕ)
first_lines root None = []
first_lines root (Some reply) = turn_line (turn_of root None reply) ∷ []

-- ---- a player by a proof

-- the position that the game has come to
abbrev pub follow_stands : FollowState → Position
follow_stands s = s.now

-- the line of a turn, and the player after it
abbrev pub turned_to : FollowState → List ℕ × (Following × Position) → List ℕ × FollowState
turned_to s turn = (turn.0, record s { at = turn.1.0; now = turn.1.1 })

-- the other side's man, and then the holder's answer
abbrev pub player_turn : FollowState → ℕ → Played FollowState
player_turn s column = option_map (turned_to s) (follow_turn s.lemmas s.holder (s.at, s.now) column)

-- each turn fills two squares, but the last may fill one
abbrev pub turns_left : FollowState → ℕ
turns_left s = if is_some (end_of s.now) then 0 else (empty_count s.now + 1) / 2
