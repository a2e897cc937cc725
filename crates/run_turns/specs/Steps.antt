-- How a game goes through an input: at each step what is played by the bytes that were not given yet is what the step wrote
-- and then what is played by those that are not given after it, or the step ends the game.
use Rattle.std.specs.Prelude.{◌≡◌, ◌≤◌, ℕ, ◌+◌, Bool, true, false, List, length, Option, Result, Ok, Err}
use Rattle.device_rules.specs.Devices.{AppendsPrefix}
use Rattle.io_ports.specs.Reading.{Pending, Reads, PassesLines}
use Rattle.game_rules.specs.Position.{Position}
use Rattle.proof_text.specs.Texts.{pieces, lines_in}
use Rattle.play_text.specs.Play as ends
use Rattle.play_text.specs.Play.{Played, behind, text_of}
use Rattle.play_text.specs.Play.{Turn, turns_from}
use Rattle.run_frame.specs.declared.game_input.InputStop.TheVariants.{NoGame, Read}
use Rattle.run_frame.specs.declared.run_stop.RunStop.{RunStop}
use Rattle.run_frame.specs.declared.run_stop.RunStop.TheVariants.{Own, Write}
use Rattle.run_turns.specs.declared.game_end.GameStop.{GameStop}
use Rattle.run_turns.specs.declared.game_end.GameStop.TheVariants.{Input, Head, NoMove}

-- what is played by the bytes that are left, the first line of which has this number
unfoldable pub turns_by : {X : Type 0} → (X → Position) → (X → ℕ → Turn X) → X → ℕ → List ℕ → Played
turns_by stands turn x at bytes = turns_from stands turn x at (lines_in (pieces bytes))

-- some lines are the first of what is played
abbrev pub GoesOn : Played → List (List ℕ) → Type 0
GoesOn played lines = (later : Played) × (played ≡ behind lines later)

-- What is played ends so by what stops it, which is a line that is no move, or a stream that failed; there it would have gone on. Each
-- line that was begun to be written stands for one that was passed, and one that is no move is passed besides.
abbrev pub StopsTurns : {H : Type 0} → Played → List (List ℕ) → List ℕ → List ℕ → RunStop (GameStop H) → Type 0
StopsTurns played lines bytes rest (Own (NoMove fault)) = PassesLines (length lines + 1) bytes rest × (played ≡ record { lines = lines; end = ends.NoMove fault })
StopsTurns played lines bytes rest (Own (Input Read)) = PassesLines (length lines) bytes rest × GoesOn played lines
StopsTurns played lines bytes rest Write = PassesLines (length lines) bytes rest × GoesOn played lines
StopsTurns played lines bytes rest (Own (Input (NoGame fault))) = ⊥
StopsTurns played lines bytes rest (Own (Head h)) = ⊥

-- whether the last line that was begun stands whole
abbrev pub is_whole : {T S : Type 0} → Result T (RunStop S) → Bool
is_whole (Ok t) = true
is_whole (Err (Own stop)) = true
is_whole (Err Write) = false

-- Lines were written, of which the last may be cut after a write that failed; and a fact of the bytes that were not given
-- before and of those that are not given after, whatever the source may give later. Each line is one turn less.
pub record TurnStep (a b : Pending) (old new : Option (List ℕ)) (whole : Bool) (before after : ℕ)
    (Fact : List (List ℕ) → List ℕ → List ℕ → Type 0) : Type 0 where
  pub lines : List (List ℕ)
  pub written : AppendsPrefix whole old new (text_of lines)
  pub few : length lines + after ≤ before
  pub reads : Reads a b (Fact lines)

-- A line was played, or there was none, or the game was stopped.
abbrev pub PlaysNext : {X H : Type 0} → (X → Position) → (X → ℕ → Turn X) → X → X → ℕ → Result Bool (RunStop (GameStop H))
    → List (List ℕ) → List ℕ → List ℕ → Type 0
PlaysNext stands turn x y at (Ok true) lines bytes rest =
    PassesLines (length lines) bytes rest × (turns_by stands turn x at bytes ≡ behind lines (turns_by stands turn y (at + 1) rest))
PlaysNext stands turn x y at (Ok false) lines bytes rest =
    PassesLines (length lines + 1) bytes rest × (turns_by stands turn x at bytes ≡ record { lines = lines; end = ends.AllPlayed })
PlaysNext stands turn x y at (Err stop) lines bytes rest = StopsTurns (turns_by stands turn x at bytes) lines bytes rest stop

-- All lines were played, or the game was stopped.
abbrev pub PlaysTurns : {X T H : Type 0} → (X → Position) → (X → ℕ → Turn X) → X → ℕ → Result T (RunStop (GameStop H))
    → List (List ℕ) → List ℕ → List ℕ → Type 0
PlaysTurns stands turn x at (Ok t) lines bytes rest =
    PassesLines (length lines + 1) bytes rest × (turns_by stands turn x at bytes ≡ record { lines = lines; end = ends.AllPlayed })
PlaysTurns stands turn x at (Err stop) lines bytes rest = StopsTurns (turns_by stands turn x at bytes) lines bytes rest stop
