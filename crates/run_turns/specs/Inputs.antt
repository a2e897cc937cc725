-- How a game that is played behind a head goes through an input: what stands where the moves begin, and what stops it before that.
use Rattle.std.specs.Prelude.{◌≡◌, ℕ, ◌+◌, List, [], length, Option, Some, None}
use Rattle.std.specs.Io.KnownBytes.{Appends}
use Rattle.io_ports.specs.Reading.{Pending, Reads, PassesLines}
use Rattle.game_rules.specs.Position.{Position}
use Rattle.play_text.specs.Play as ends
use Rattle.play_text.specs.Play.{PlayEnd, Played, Turn, behind, text_of}
use Rattle.run_frame.specs.declared.game_input.InputStop.TheVariants.{NoGame, Read}
use Rattle.run_turns.specs.Games.{GameForm}
use Rattle.run_turns.specs.Steps.{GoesOn, turns_by}
use Rattle.run_turns.specs.declared.game_end.GameStop.{GameStop}
use Rattle.run_turns.specs.declared.game_end.GameStop.TheVariants.{Input, Head, NoMove}

-- how a game ends by what stops it; where the source failed, it would have gone on
abbrev pub end_by : {H : Type 0} → GameForm H → GameStop H → Option PlayEnd
end_by form (Input (NoGame fault)) = Some (ends.NoGame fault)
end_by form (Input Read) = None
end_by form (Head h) = form.end_of h
end_by form (NoMove fault) = Some (ends.NoMove fault)

abbrev pub EndsSo : Played → List (List ℕ) → Option PlayEnd → Type 0
EndsSo played lines (Some end) = played ≡ record { lines = lines; end = end }
EndsSo played lines None = GoesOn played lines

-- what stops a game while nothing was written yet
abbrev pub StopsPlay : {H : Type 0} → GameForm H → Played → GameStop H → Type 0
StopsPlay form played stop = EndsSo played [] (end_by form stop)

-- how many lines are read at most by then
abbrev pub lines_until : {H : Type 0} → GameForm H → GameStop H → ℕ
lines_until form (Input (NoGame fault)) = 2
lines_until form (Input Read) = form.unread
lines_until form (Head h) = form.until h
lines_until form (NoMove fault) = form.head + 1

-- The head was passed and the lines were written that stand before the answers; behind them comes what a player makes of the
-- lines that are left, the first of which has this number.
pub record Starts {H X : Type 0} (form : GameForm H) (stands : X → Position) (turn : X → ℕ → Turn X) (x : X) (first : ℕ) (a b : Pending)
    (old new : Option (List ℕ)) : Type 0 where
  pub lines : List (List ℕ)
  pub opened : length lines ≡ form.opening
  pub written : Appends old new (text_of lines)
  pub reads : Reads a b (λ bytes rest. PassesLines form.head bytes rest × (form.given bytes ≡ behind lines (turns_by stands turn x first rest)))
