-- How the game of an input of lines is read.
use Rattle.std.specs.Prelude.{◌≡◌, ℕ, List, ◌++◌, take, Result, Err}
use Rattle.device_rules.specs.Devices.{Rose}
use Rattle.io_ports.specs.Lines.{Cut, next_line, feed}
use Rattle.game_rules.specs.Position.{Position}
use Rattle.game_rules.specs.declared.InputFault.{InputFault}
use Rattle.proof_text.specs.Texts.{game_prefix}
use Rattle.run_frame.specs.declared.game_input.InputStop.{InputStop}
use Rattle.run_frame.specs.declared.game_input.InputStop.TheVariants as stops

-- what is kept of a line of the game: its prefix, and the line feed that ended it
abbrev pub kept_of : Cut → List ℕ
kept_of line = take game_prefix line.text ++ feed line.fed

-- The prefix of the next line, and the line feed that ended it, were put behind the text.
abbrev pub KeepsLine : List ℕ → List ℕ → List ℕ → List ℕ → Type 0
KeepsLine text longer bytes rest = (longer ≡ text ++ kept_of (next_line bytes)) × (rest ≡ (next_line bytes).rest)

-- what stops the reading of a game is its fault, or one of the source, whose count rose
abbrev pub StopsGame : Result Position InputFault → ℕ → ℕ → InputStop → Type 0
StopsGame game before after (stops.NoGame fault) = game ≡ Err fault
StopsGame game before after stops.Read = Rose before after
