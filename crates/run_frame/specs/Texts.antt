-- The statuses and the texts for the error stream that the commands share.
use Rattle.std.specs.Prelude.{ℕ, List, ◌++◌, codes, decimal}
use Rattle.game_rules.specs.declared.InputFault.{InputFault}
use Rattle.game_rules.specs.Words.{kind_word}
use Rattle.proof_text.specs.Spelling.{as_line}
use Rattle.run_frame.specs.declared.game_input.InputStop.{InputStop}
use Rattle.run_frame.specs.declared.game_input.InputStop.TheVariants.{NoGame, Read}

-- the kind of the fault and its byte place
abbrev pub fault_line : InputFault → List ℕ
fault_line fault = as_line (codes "input fault: " ++ kind_word fault.kind ++ codes " at " ++ decimal fault.at)

abbrev pub read_line : List ℕ
read_line = as_line (codes "read fault")

-- why the line with this number is refused is said behind this
abbrev pub refusal_begun : ℕ → List ℕ
refusal_begun at = codes "refused line " ++ decimal at ++ codes ": "

abbrev pub write_line : List ℕ
write_line = as_line (codes "write fault")

abbrev pub memory_line : List ℕ
memory_line = as_line (codes "out of memory")

-- where no game was read: the input is none, or reading failed
abbrev pub stop_status : InputStop → ℕ
stop_status (NoGame fault) = 3
stop_status Read = 6

abbrev pub stop_text : InputStop → List ℕ
stop_text (NoGame fault) = fault_line fault
stop_text Read = read_line
