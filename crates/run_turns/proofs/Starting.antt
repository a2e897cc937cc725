-- The game of an input, behind which the moves begin.
use Rattle.std.proofs.Common.{◌≡◌, ℕ, ◌≤◌, List, [], Option, Result, Err, refl, sym}
use Rattle.std.proofs.KnownBytes.{Appends-nil}
use Rattle.device_rules.specs.Devices.{Rose}
use Rattle.io_ports.specs.Reading.{Pending, Reads, PassesLines}
use Rattle.io_ports.proofs.Reading.{Reads_more, passes_most}
use Rattle.game_rules.specs.Position.{Position}
use Rattle.game_rules.specs.Text.{game_at}
use Rattle.game_rules.specs.declared.InputFault.{InputFault}
use Rattle.proof_text.specs.Texts.{pieces, game_of}
use Rattle.play_text.specs.Play as ends
use Rattle.play_text.specs.Play.{Turn, ended}
use Rattle.run_frame.specs.Reading.{StopsGame}
use Rattle.run_frame.specs.declared.game_input.InputStop.{InputStop}
use Rattle.run_frame.specs.declared.game_input.InputStop.TheVariants as inputs
use Rattle.run_turns.specs.Games.{GameForm}
use Rattle.run_turns.specs.Inputs.{StopsPlay, lines_until, Starts}
use Rattle.run_turns.specs.Steps.{turns_by}
use Rattle.run_turns.specs.declared.game_end.GameStop.TheVariants as stops

module _ {H : Type 0} (form : GameForm H) (unread : 1 ≤ form.unread)
    (none : (bytes : List ℕ) (fault : InputFault) → game_at (game_of (pieces bytes)) ≡ Err fault → form.given bytes ≡ ended (ends.NoGame fault)) where
  -- what stops the reading of the game stops play
  pub game_stops : (a b : Pending) (before after : ℕ) (why : InputStop)
      → Reads a b (λ bytes rest. PassesLines 2 bytes rest × StopsGame (game_at (game_of (pieces bytes))) before after why)
      → (why ≡ inputs.Read → Reads a b (PassesLines 1))
      → Reads a b (λ bytes rest. PassesLines (lines_until form (stops.Input why)) bytes rest × StopsPlay form (form.given bytes) (stops.Input why))
  game_stops a b before after (inputs.NoGame fault) game short = Reads_more a b _ _ game (λ bytes rest h. (h.0, none bytes fault h.1))
  game_stops a b before after inputs.Read game short =
      Reads_more a b _ _ (short refl) (λ bytes rest passes. (passes_most 1 form.unread bytes rest unread passes, (form.given bytes, refl)))

-- it is the source that stops it, whose count rose
pub game_caused : (a b : Pending) (before after : ℕ) (why : InputStop)
    → Reads a b (λ bytes rest. PassesLines 2 bytes rest × StopsGame (game_at (game_of (pieces bytes))) before after why)
    → why ≡ inputs.Read → Rose before after
game_caused a b before after why game is = by_game _ why (game.fact [] (λ _. refl)).1 is
  where
    by_game : (read : Result Position InputFault) (why : InputStop) → StopsGame read before after why → why ≡ inputs.Read → Rose before after
    by_game read (inputs.NoGame fault) stops is = absurd (cc is)
    by_game read inputs.Read stops is = stops

-- no line was written before the answers
pub nothing_opened : {H X : Type 0} (form : GameForm H) (stands : X → Position) (turn : X → ℕ → Turn X) (x : X) (first : ℕ) (a b : Pending)
    (o : Option (List ℕ)) → form.opening ≡ 0
    → Reads a b (λ bytes rest. PassesLines form.head bytes rest × (form.given bytes ≡ turns_by stands turn x first rest))
    → Starts form stands turn x first a b o o
nothing_opened form stands turn x first a b o none reads = record {
  lines = [];
  opened = sym none;
  written = Appends-nil o;
  reads = reads;
}
