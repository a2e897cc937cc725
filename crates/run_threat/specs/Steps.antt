-- What is played by the bytes that were not given yet.
use Rattle.std.specs.Prelude.{ℕ, List}
use Rattle.game_rules.specs.Position.{Position}
use Rattle.odd_rules.specs.Refusal.{first_threat}
use Rattle.proof_text.specs.Texts.{pieces, lines_in}
use Rattle.play_text.specs.Play.{Played}
use Rattle.threat_text.specs.Threats.{answers_from, threat_lines}
use Rattle.run_threat.specs.Turns.{ThreatGame}

-- what is played by the bytes behind the game
unfoldable pub played_at : Position → List ℕ → Played
played_at root bytes = threat_lines root (first_threat root) (lines_in (pieces bytes))

-- what is played by the bytes behind some of Black's lines, the next of which has this number
unfoldable pub played_from : ThreatGame → ℕ → List ℕ → Played
played_from game at bytes = answers_from game.threat.pairs game.stands at (lines_in (pieces bytes))
