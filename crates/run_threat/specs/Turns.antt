-- What a player by a threat makes of Black's moves.
use Rattle.std.specs.Prelude.{◌≡◌, ℕ, ◌/◌, true, List, Option, Some, None, option_map}
use Rattle.game_rules.specs.Board.{is_board}
use Rattle.game_rules.specs.Position.{Position, board_of, empty_count}
use Rattle.game_rules.specs.declared.End.{End}
use Rattle.game_rules.specs.declared.End.TheVariants as ends
use Rattle.odd_rules.specs.Threat.{is_threat}
use Rattle.odd_rules.specs.Duel.{after_turn}
use Rattle.play_text.specs.Play.{Turn}
use Rattle.threat_rules.specs.Threatened.{Threatened, IsReached}
use Rattle.threat_text.specs.Threats.{turn_text}
use Rattle.run_turns.specs.declared.turn.TurnEnd.{TurnEnd}
use Rattle.run_turns.specs.declared.turn.TurnEnd.TheVariants.{GoesOn, Won}

-- the threat, and the position that the game has come to
pub record ThreatGame : Type 0 where
  pub threat : Threatened
  pub stands : Position

-- The group and the pairs are a threat on a board, and the position comes from the threat's own by some of Black's moves with
-- the threat's answers.
pub record IsUnderWay (threat : Threatened) (stands : Position) : Type 0 where
  pub board : is_board (board_of threat.at) ≡ true
  pub is_one : is_threat threat.at threat.group threat.pairs ≡ true
  pub reached : IsReached threat stands

abbrev pub threat_stands : ThreatGame → Position
threat_stands game = game.stands

-- the line of a turn, and the game after White's man
abbrev pub game_with : ThreatGame → ℕ → Position → List ℕ × ThreatGame
game_with game column next = (turn_text game.threat.pairs game.stands column, record { threat = game.threat; stands = next })

-- Black's man, and then the threat's answer
abbrev pub player_turn : ThreatGame → ℕ → Turn ThreatGame
player_turn game column = option_map (game_with game column) (after_turn game.threat.pairs game.stands column)

-- what White's man ended: the board isn't full without a line of White's
abbrev pub turn_end : Option End → TurnEnd
turn_end (Some ends.White) = Won
turn_end (Some ends.Black) = GoesOn
turn_end (Some ends.Draw) = GoesOn
turn_end None = GoesOn

-- each turn fills two squares
abbrev pub turns_left : ThreatGame → ℕ
turns_left game = empty_count game.stands / 2
