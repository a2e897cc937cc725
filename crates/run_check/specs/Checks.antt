-- How `check` ends, what it writes, and what it promises of the bytes that it took and of its sink, by its end. What is said of
-- what a sink holds is said of a sink that tells it.
use Rattle.std.specs.Prelude.{◌≡◌, ◌⊎◌, ℕ, false, List, [], ◌∷◌, ◌++◌, Option, None, IfSome, Result, Ok, Err, ⊤, codes, decimal}
use Rattle.std.specs.Io.KnownBytes.{Keeps, Appends}
use Rattle.device_rules.specs.Devices.{AppendsPrefix}
use Rattle.proof_text.specs.Texts as answers
use Rattle.proof_text.specs.Texts.{check_of}
use Rattle.proof_text.specs.declared.Verdict.{Verdict}
use Rattle.proof_text.specs.Words.{verdict_word}
use Rattle.run_frame.specs.Ended.{EndsBy, Owes}
use Rattle.run_frame.specs.Stops.{of_result, run_stop_status, run_stop_text}
use Rattle.run_frame.specs.Streams.{Streams, Took, TakesLines}
use Rattle.run_frame.specs.declared.run_stop.RunStop.{RunStop}
use Rattle.run_frame.specs.declared.run_stop.RunStop.TheVariants.{Own, Write}
use Rattle.run_proof.specs.Stops.{stop_status, stop_text, IsStopped}
use Rattle.run_proof.specs.Whole.{IsRightInput, most_lines_read, most_taken}
use Rattle.run_proof.specs.declared.stop.ProofStop.{ProofStop}

-- what is written where a proof is right: its verdict, and how many lemmas it has
abbrev pub accepted_line : Verdict → ℕ → List ℕ
accepted_line v count = codes "accepted " ++ verdict_word v ++ 32 ∷ decimal count ++ 10 ∷ []

-- how it ends: it accepts a proof, or something stops it
abbrev pub Checked : Type 0
Checked = Result ⊤ (RunStop ProofStop)

-- the exit status of an end, and its text for the error stream
abbrev pub checked_status : Checked → ℕ
checked_status = of_result (λ done. 0) (run_stop_status stop_status)

abbrev pub checked_text : Checked → List ℕ
checked_text = of_result (λ done. []) (run_stop_text stop_text)

-- from the bytes that it took, by its end
abbrev pub ChecksFrom : List ℕ → Streams → Checked → Type 0
ChecksFrom taken s (Ok done) = (v : Verdict) × (count : ℕ) × IsRightInput None taken s.left v count × Appends s.old s.new (accepted_line v count)
ChecksFrom taken s (Err Write) = (v : Verdict) × (count : ℕ) × IsRightInput None taken s.left v count × AppendsPrefix false s.old s.new (accepted_line v count)
ChecksFrom taken s (Err (Own stop)) = IsStopped None taken s stop × Keeps s.old s.new

-- `check`; it takes the lines of a proof at most, and behind the last of them what came with it
abbrev pub Checks : Streams → Checked → Type 0
Checks s end = Took s most_taken (λ taken. ChecksFrom taken s end × TakesLines most_lines_read s.last_read taken)

-- the same, as a caller of `run` sees it
abbrev pub CheckRuns : Streams → (status : ℕ) → (text : List ℕ) → Type 0
CheckRuns s status text = EndsBy checked_status checked_text (Checks s) status text

-- how it ends on a proof that is right, where no stream failed: it accepts it, unless memory runs out
abbrev pub CheckCompletes : Option (List ℕ) → (status : ℕ) → Type 0
CheckCompletes input status = IfSome input (λ bytes. (v : Verdict) (count : ℕ) → check_of bytes ≡ answers.Accepted v count → (status ≡ 0) ⊎ (status ≡ 8))

-- what it owes of a run
abbrev pub CheckOwes : Streams → (unread unwritten : Type 0) → Checked → Type 0
CheckOwes = Owes checked_status Checks CheckCompletes
