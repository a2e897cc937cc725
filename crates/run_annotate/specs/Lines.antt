-- How the lines of a game's last moves are put.
use Rattle.std.specs.Prelude.{◌≡◌, ℕ, ◌+◌, ◌-◌, Bool, List, length, take, drop, Option, Some}
use Rattle.device_rules.specs.Devices.{AppendsPrefix}
use Rattle.game_rules.specs.Game.{Game, board_played}
use Rattle.game_rules.specs.Position.{Position, empty_position, played}
use Rattle.tool_text.specs.Marks.{mark_lines}
use Rattle.tool_text.specs.declared.Mark.{Mark}

-- how many moves of a game are not among the last so many
abbrev pub moves_before : Game → ℕ → ℕ
moves_before game last = length game.moves - last

-- From the position behind the first moves on, the lines of the others with their marks were put, or a prefix of them.
pub record PutsLines (game : Game) (first : ℕ) (marks : List Mark) (whole : Bool) (old new : Option (List ℕ)) : Type 0 where
  pub start : Position
  pub before : played (empty_position (board_played game)) (take first game.moves) ≡ Some start
  pub written : AppendsPrefix whole old new (mark_lines (first + 1) start (drop first game.moves) marks)
