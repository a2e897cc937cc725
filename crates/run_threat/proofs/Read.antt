-- What each step of `threat` says of the bytes: what is played goes on, or how it ends.
use Rattle.std.proofs.Common.{◌≡◌, ℕ, ◌+◌, List, [], ◌∷◌, Option, Some, None, option_map, Ok, Err, refl, ap, ◌∙◌}
use Rattle.game_rules.specs.Position.{Position, board_of}
use Rattle.game_rules.specs.Text.{game_at}
use Rattle.game_rules.specs.declared.InputFault.{InputFault}
use Rattle.odd_rules.specs.Duel.{after_turn}
use Rattle.odd_rules.specs.Refusal.{first_threat}
use Rattle.proof_text.specs.Texts.{pieces, lines_in, game_of, behind_game}
use Rattle.play_text.specs.Play.{NoGame, ended, behind, column_in, move_refusal, with_turn, with_move, turns_from}
use Rattle.play_text.specs.declared.PlayKind.{PlayKind}
use Rattle.threat_text.specs.Threats.{turn_with, threat_turn, answers_from, threat_lines, threat_game, threat_of}
use Rattle.run_turns.specs.Steps.{turns_by}
use Rattle.run_threat.specs.Steps.{played_at, played_from}
use Rattle.run_threat.specs.Turns.{ThreatGame, threat_stands, game_with, player_turn}

-- ---- the game

pub game_goes : (bytes rest : List ℕ) (root : Position) → game_at (game_of (pieces bytes)) ≡ Ok root → behind_game (pieces bytes) ≡ lines_in (pieces rest)
    → threat_of bytes ≡ played_at root rest
unfolding threat_of played_at
game_goes bytes rest root game lines = ap (λ game. threat_game game (behind_game (pieces bytes))) game ∙ ap (threat_lines root (first_threat root)) lines

pub game_none : (bytes : List ℕ) (fault : InputFault) → game_at (game_of (pieces bytes)) ≡ Err fault → threat_of bytes ≡ ended (NoGame fault)
unfolding threat_of
game_none bytes fault game = ap (λ game. threat_game game (behind_game (pieces bytes))) game

-- ---- Black's lines

-- what is played by the turns of a player by a threat is what is played by the threat
turns_played : (game : ThreatGame) (at : ℕ) (lines : List (List ℕ))
    → turns_from threat_stands player_turn game at lines ≡ answers_from game.threat.pairs game.stands at lines
turns_played game at [] = refl
turns_played game at (line ∷ lines) =
    of_column (column_in (board_of game.stands) line) (move_refusal game.stands (column_in (board_of game.stands) line))
    (λ next. turns_played next (at + 1) lines)
  where
    of_turn : (column : ℕ) (turn : Option Position)
        → ((next : ThreatGame) → turns_from threat_stands player_turn next (at + 1) lines ≡ answers_from next.threat.pairs next.stands (at + 1) lines)
        → with_turn (option_map (game_with game column) turn) (λ next. turns_from threat_stands player_turn next (at + 1) lines)
        ≡ with_turn (option_map (turn_with game.threat.pairs game.stands column) turn) (λ next. answers_from game.threat.pairs next (at + 1) lines)
    of_turn column None later = refl
    of_turn column (Some next) later =
        let turn = game_with game column next in
        ap (behind (turn.0 ∷ [])) (later turn.1)

    of_column : (column : Option ℕ) (refusal : Option PlayKind)
        → ((next : ThreatGame) → turns_from threat_stands player_turn next (at + 1) lines ≡ answers_from next.threat.pairs next.stands (at + 1) lines)
        → with_move (player_turn game) at column refusal (λ next. turns_from threat_stands player_turn next (at + 1) lines)
        ≡ with_move (threat_turn game.threat.pairs game.stands) at column refusal (λ next. answers_from game.threat.pairs next (at + 1) lines)
    of_column column (Some kind) later = refl
    of_column None None later = refl
    of_column (Some column) None later = of_turn column (after_turn game.threat.pairs game.stands column) later

pub turns_by_threat : (game : ThreatGame) (at : ℕ) (bytes : List ℕ) → turns_by threat_stands player_turn game at bytes ≡ played_from game at bytes
unfolding turns_by played_from
turns_by_threat game at bytes = turns_played game at (lines_in (pieces bytes))
