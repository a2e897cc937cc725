-- How `trim` ends, what it writes, and what it promises of the bytes that it took and of its sink, by its end. What is said of
-- what a sink holds is said of a sink that tells it.
use Rattle.std.specs.Prelude.{◌≡◌, ◌⊎◌, ℕ, Bool, true, false, List, [], ◌++◌, length, Contains, Option, None, IfSome, Result, Ok, Err, ⊤}
use Rattle.std.specs.Io.KnownBytes.{Keeps, IsAtEnd}
use Rattle.device_rules.specs.Devices.{AppendsPrefix}
use Rattle.game_rules.specs.Game.{Game, board_played}
use Rattle.proof_text.specs.Lemma.{Lemma}
use Rattle.proof_text.specs.Texts as answers
use Rattle.proof_text.specs.Texts.{head_of, check_of, lemmas_among, IsRightText}
use Rattle.proof_text.specs.Words.{verdict_word}
use Rattle.proof_text.specs.declared.Verdict.{Verdict}
use Rattle.proof_text.specs.declared.Version.{Version}
use Rattle.tool_text.specs.Trim.{IsReached, trimmed, trimmed_verdict, trimmed_lines, IsTrimmedText}
use Rattle.run_frame.specs.Ended.{EndsBy, Owes}
use Rattle.run_frame.specs.Stops.{of_result, run_stop_status, run_stop_text, memory_stop_status, memory_stop_text}
use Rattle.run_frame.specs.Streams.{Streams, Took, TakesLines}
use Rattle.run_frame.specs.declared.run_stop.MemoryStop.{MemoryStop}
use Rattle.run_frame.specs.declared.run_stop.MemoryStop.TheVariants.{Input, Memory}
use Rattle.run_frame.specs.declared.run_stop.RunStop.{RunStop}
use Rattle.run_frame.specs.declared.run_stop.RunStop.TheVariants.{Own, Write}
use Rattle.run_proof.specs.Stops.{stop_status, stop_text, IsStopped}
use Rattle.run_proof.specs.Whole.{IsRightInput, most_lines_read, most_taken}
use Rattle.run_proof.specs.declared.stop.ProofStop.{ProofStop}

-- how it ends: it writes what the verdict rests on, or something stops it
abbrev pub Trimmed : Type 0
Trimmed = Result ⊤ (RunStop (MemoryStop ProofStop))

-- the exit status of an end
abbrev pub trimmed_status : Trimmed → ℕ
trimmed_status = of_result (λ done. 0) (run_stop_status (memory_stop_status stop_status))

-- The bytes are a right proof, of which this is the trimmed text: its head, and those of its lemmas that are reached with its
-- verdict, numbered anew. That is a right proof in the same version, which `check` accepts, its verdict has the same word, and each of
-- its lemmas is reached.
pub record IsTrimmed (bytes written : List ℕ) : Type 0 where
  pub version : Version
  pub verdict : Verdict
  pub count : ℕ
  pub trim : IsTrimmedText version bytes written verdict count
  pub lemmas : List Lemma
  pub kept : lemmas ≡ trimmed (lemmas_among trim.text.entries) verdict
  pub named : Verdict
  pub anew : named ≡ trimmed_verdict (lemmas_among trim.text.entries) verdict
  pub right : IsRightText version written named (length lemmas)
  pub accepted : check_of written ≡ answers.Accepted named (length lemmas)
  pub word : verdict_word named ≡ verdict_word verdict
  pub reached : (l : Lemma) → Contains lemmas l → IsReached lemmas named l.number

-- The bytes are all of the input, and the trimmed text of them was written, or, where it wasn't written whole, a prefix of it.
pub record HasTrimmed (whole : Bool) (bytes : List ℕ) (left old new : Option (List ℕ)) : Type 0 where
  pub text : List ℕ
  pub is : IsTrimmed bytes text
  pub all : IsAtEnd left
  pub written : AppendsPrefix whole old new text

-- from the bytes that it took, by its end
abbrev pub TrimsFrom : List ℕ → Streams → Trimmed → Type 0
TrimsFrom taken s (Ok done) = HasTrimmed true taken s.left s.old s.new
TrimsFrom taken s (Err Write) = HasTrimmed false taken s.left s.old s.new
TrimsFrom taken s (Err (Own Memory)) = ((v : Verdict) × (count : ℕ) × IsRightInput None taken s.left v count) × Keeps s.old s.new
TrimsFrom taken s (Err (Own (Input stop))) = IsStopped None taken s stop × Keeps s.old s.new

-- `trim`; it takes the lines of a proof at most, and behind the last of them what came with it
abbrev pub Trims : Streams → Trimmed → Type 0
Trims s end = Took s most_taken (λ taken. TrimsFrom taken s end × TakesLines most_lines_read s.last_read taken)

-- the same, as a caller of `run` sees it
abbrev pub TrimRuns : Streams → (status : ℕ) → (text : List ℕ) → Type 0
TrimRuns s status text = EndsBy trimmed_status (of_result (λ done. []) (run_stop_text (memory_stop_text stop_text))) (Trims s) status text

-- how it ends on a proof that is right, where no stream failed: it trims it, unless memory runs out
abbrev pub TrimCompletes : Option (List ℕ) → (status : ℕ) → Type 0
TrimCompletes input status = IfSome input (λ bytes. (v : Verdict) (count : ℕ) → check_of bytes ≡ answers.Accepted v count → (status ≡ 0) ⊎ (status ≡ 8))

-- what it owes of a run
abbrev pub TrimOwes : Streams → (unread unwritten : Type 0) → Trimmed → Type 0
TrimOwes = Owes trimmed_status Trims TrimCompletes

-- ---- what is written of a proof that was read

-- its head, and those of its lemmas that are reached with its verdict, were put, or a prefix of that; or memory ran out
abbrev pub PutsTrimmed : Version → Game → List Lemma → Verdict → Option (List ℕ) → Option (List ℕ) → Trimmed → Type 0
PutsTrimmed version game ls v old new (Ok done) = AppendsPrefix true old new (head_of version (board_played game) game.moves ++ trimmed_lines ls v)
PutsTrimmed version game ls v old new (Err Write) = AppendsPrefix false old new (head_of version (board_played game) game.moves ++ trimmed_lines ls v)
PutsTrimmed version game ls v old new (Err (Own Memory)) = Keeps old new
PutsTrimmed version game ls v old new (Err (Own (Input stop))) = ⊥
