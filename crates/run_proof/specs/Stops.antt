-- What stops the reading of a proof: its exit status, its text for the error stream, and what holds of the bytes then.
use Rattle.std.specs.Prelude.{ℕ, ⊤, List, ◌++◌, Option, IfSome}
use Rattle.proof_text.specs.Spelling.{as_line}
use Rattle.proof_text.specs.Texts as answers
use Rattle.proof_text.specs.Words.{why_text}
use Rattle.proof_text.specs.declared.Version.{Version}
use Rattle.cert_checker.specs.Checking.{why_of}
use Rattle.cert_checker.specs.declared.stops.Refusal.{Refusal}
use Rattle.run_frame.specs.Streams.{Streams, TakesLines}
use Rattle.run_frame.specs.Texts as inputs
use Rattle.run_frame.specs.Texts.{refusal_begun, memory_line}
use Rattle.run_frame.specs.declared.game_input.InputStop.TheVariants.{NoGame, Read}
use Rattle.run_frame.specs.declared.run_stop.RunStop.{RunStop}
use Rattle.run_frame.specs.declared.run_stop.RunStop.TheVariants.{Own, Write}
use Rattle.run_proof.specs.Whole.{IsAnswer, BeginsProof}
use Rattle.run_proof.specs.declared.stop.ProofStop.{ProofStop}
use Rattle.run_proof.specs.declared.stop.ProofStop.TheVariants.{Input, Refused, Memory}

-- the number of the line that is refused, and why
abbrev pub refusal_line : Refusal → List ℕ
refusal_line refusal = as_line (refusal_begun refusal.at ++ why_text (why_of refusal.why))

abbrev pub stop_status : ProofStop → ℕ
stop_status (Input why) = inputs.stop_status why
stop_status (Refused refusal) = 4
stop_status Memory = 8

abbrev pub stop_text : ProofStop → List ℕ
stop_text (Input why) = inputs.stop_text why
stop_text (Refused refusal) = refusal_line refusal
stop_text Memory = memory_line

-- What holds of the bytes that were taken, and of all of the input, where the source tells it. Where a line is refused, no more
-- was taken than the lines up to it, and where the game is none, than the first three; and behind them what came with them.
-- Memory runs out only at a lemma that isn't refused, behind lines that aren't.
abbrev pub IsStopped : Option Version → List ℕ → Streams → ProofStop → Type 0
IsStopped asked taken s (Input (NoGame fault)) = IsAnswer asked taken s.input (answers.NoGame fault) × TakesLines 3 s.last_read taken
IsStopped asked taken s (Input Read) = ⊤
IsStopped asked taken s (Refused r) = IsAnswer asked taken s.input (answers.Refused r.at (why_of r.why)) × TakesLines r.at s.last_read taken
IsStopped asked taken s Memory = BeginsProof asked taken × IfSome s.input (BeginsProof asked)

-- a fault comes only where the stream's count of faults rose
abbrev pub IsCausedBy : (unread unwritten : Type 0) → RunStop ProofStop → Type 0
IsCausedBy unread unwritten (Own (Input Read)) = unread
IsCausedBy unread unwritten (Own (Input (NoGame fault))) = ⊤
IsCausedBy unread unwritten (Own (Refused r)) = ⊤
IsCausedBy unread unwritten (Own Memory) = ⊤
IsCausedBy unread unwritten Write = unwritten
