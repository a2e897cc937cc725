-- The statuses and the texts for the error stream of what stops a run, and of what it did.
use Rattle.std.specs.Prelude.{ℕ, List, Result, Ok, Err}
use Rattle.run_frame.specs.Texts.{write_line, memory_line}
use Rattle.run_frame.specs.declared.run_stop.RunStop.{RunStop}
use Rattle.run_frame.specs.declared.run_stop.RunStop.TheVariants.{Own, Write}
use Rattle.run_frame.specs.declared.run_stop.MemoryStop.{MemoryStop}
use Rattle.run_frame.specs.declared.run_stop.MemoryStop.TheVariants.{Input, Memory}
use Rattle.run_frame.specs.declared.run_stop.Sought.{Sought}
use Rattle.run_frame.specs.declared.run_stop.Sought.TheVariants.{Found, Missing}

abbrev pub run_stop_status : {S : Type 0} → (S → ℕ) → RunStop S → ℕ
run_stop_status status_of (Own why) = status_of why
run_stop_status status_of Write = 7

abbrev pub run_stop_text : {S : Type 0} → (S → List ℕ) → RunStop S → List ℕ
run_stop_text text_of (Own why) = text_of why
run_stop_text text_of Write = write_line

abbrev pub memory_stop_status : {S : Type 0} → (S → ℕ) → MemoryStop S → ℕ
memory_stop_status status_of (Input why) = status_of why
memory_stop_status status_of Memory = 8

abbrev pub memory_stop_text : {S : Type 0} → (S → List ℕ) → MemoryStop S → List ℕ
memory_stop_text text_of (Input why) = text_of why
memory_stop_text text_of Memory = memory_line

abbrev pub sought_status : Sought → ℕ
sought_status Found = 0
sought_status Missing = 5

-- what a result says, by what was done or by what stopped it
abbrev pub of_result : {D S X : Type 0} → (D → X) → (S → X) → Result D S → X
of_result of_done of_stop (Ok done) = of_done done
of_result of_done of_stop (Err stop) = of_stop stop
