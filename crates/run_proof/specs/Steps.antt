-- How the next line of a proof is read: it is accepted, or there is none, or it stops the reading.
use Rattle.std.specs.Prelude.{◌≡◌, ◌⊎◌, ℕ, ◌+◌, ◌≤◌, Bool, true, List, [], ◌∷◌, Some, None}
use Rattle.device_rules.specs.Devices.{Rose}
use Rattle.game_rules.specs.Position.{board_of}
use Rattle.proof_text.specs.Checked.{CheckerState, line_refusal, with_line}
use Rattle.proof_text.specs.Lemma.{Lemma, Line, ALemma}
use Rattle.proof_text.specs.Reading.{read_line}
use Rattle.proof_text.specs.Texts.{most_lines, bytes_refusal, with_bytes}
use Rattle.cert_checker.specs.Checking.{why_of}
use Rattle.io_ports.specs.Lines.{Gives}
use Rattle.io_ports.specs.Reading.{Pending, Reads}
use Rattle.io_ports.specs.declared.line_reader.LineGot.{LineGot}
use Rattle.io_ports.specs.declared.line_reader.LineGot.TheVariants as gets
use Rattle.run_frame.specs.declared.game_input.InputStop.TheVariants as inputs
use Rattle.run_proof.specs.Whole.{most_lines_read}
use Rattle.proof_text.specs.declared.Version.{Version}
use Rattle.proof_text.specs.declared.Why.TheVariants.{BadLine}
use Rattle.run_proof.specs.declared.stop.ProofStop.{ProofStop}
use Rattle.run_proof.specs.declared.stop.ProofStop.TheVariants as stops

-- behind what stands, the line isn't refused at this number, and is a lemma
abbrev pub IsNextLemma : Version → CheckerState → ℕ → List ℕ → Type 0
IsNextLemma version s at bytes = (bytes_refusal version s at bytes ≡ None) × (l : Lemma) × (read_line version (board_of s.root) bytes ≡ Some (ALemma l))

-- behind what stands, the lines aren't refused up to one that is a lemma; the first has this number
abbrev pub ReachLemma : Version → CheckerState → ℕ → List (List ℕ) → Type 0
ReachLemma version s at [] = ⊥
ReachLemma version s at (line ∷ lines) = IsNextLemma version s at line ⊎ ((bytes_refusal version s at line ≡ None) × ReachLemma version (with_bytes version s line) (at + 1) lines)

-- behind what stands, the line at a number is refused by this name, or is a lemma for which memory runs out
abbrev pub StopsAtLine : Version → CheckerState → ℕ → List ℕ → ProofStop → Type 0
StopsAtLine version s at bytes (stops.Refused r) = (bytes_refusal version s at bytes ≡ Some (why_of r.why)) × (r.at ≡ at)
StopsAtLine version s at bytes stops.Memory = IsNextLemma version s at bytes
StopsAtLine version s at bytes (stops.Input why) = ⊥

-- behind what stands, the bytes say a line at this number that isn't refused, and it is added
pub record IsAccepted (version : Version) (s t : CheckerState) (at : ℕ) (bytes : List ℕ) (line : Line) : Type 0 where
  pub few : at ≤ most_lines
  pub said : read_line version (board_of s.root) bytes ≡ Some line
  pub stands : line_refusal s line ≡ None
  pub next : t ≡ with_line s line

-- the next line that is got is accepted
pub record AcceptsNext (a b : Pending) (version : Version) (s t : CheckerState) (at : ℕ) (line : Line) : Type 0 where
  pub text : List ℕ
  pub fed : Bool
  pub gives : Reads a b (λ bytes rest. Gives bytes rest gets.Line text fed)
  pub accepted : IsAccepted version s t at text line

-- no line is left, and the end of the input was reached
pub record EndsLines (a b : Pending) (s t : CheckerState) (ended : Bool) : Type 0 where
  pub text : List ℕ
  pub fed : Bool
  pub gives : Reads a b (λ bytes rest. Gives bytes rest gets.Done text fed)
  pub same : t ≡ s
  pub whole : ended ≡ true

-- what is got stops the reading: a line that is refused, or for which memory runs out, one that is too long, or a fault
abbrev pub StopsAtGot : Version → CheckerState → (at before after : ℕ) → List ℕ → ProofStop → LineGot → Type 0
StopsAtGot version s at before after text stop gets.Line = StopsAtLine version s at text stop
StopsAtGot version s at before after text stop gets.Long = stop ≡ stops.Refused (record { at = at; why = BadLine })
StopsAtGot version s at before after text stop gets.Done = ⊥
StopsAtGot version s at before after text stop gets.Failed = (stop ≡ stops.Input inputs.Read) × Rose before after

pub record StopsNext (a b : Pending) (version : Version) (s : CheckerState) (at before after : ℕ) (stop : ProofStop) : Type 0 where
  pub got : LineGot
  pub text : List ℕ
  pub fed : Bool
  pub gives : Reads a b (λ bytes rest. Gives bytes rest got text fed)
  pub stopped : StopsAtGot version s at before after text stop got

-- the number of the last line that is read, at most, by what stops the reading
abbrev pub lines_read_until : ProofStop → ℕ
lines_read_until (stops.Refused r) = r.at
lines_read_until (stops.Input (inputs.NoGame fault)) = 3
lines_read_until (stops.Input inputs.Read) = most_lines_read
lines_read_until stops.Memory = most_lines_read
