-- How `play` ends, and what it promises of the bytes that it took and of its sink, by its end.
use Rattle.std.specs.Prelude.{ℕ, List, ◌++◌, Option, Some, codes}
use Rattle.plan_text.specs.Faults.{plan_fault_text}
use Rattle.proof_text.specs.Spelling.{as_line}
use Rattle.plan_lines.specs.Faults.{fault_of}
use Rattle.plan_lines.specs.PlanFault.{PlanFault}
use Rattle.play_text.specs.Play as ends
use Rattle.play_text.specs.Play.{PlayEnd, play_of}
use Rattle.play_text.specs.Told.{IsTold}
use Rattle.run_frame.specs.Ended.{EndsBy, Owes}
use Rattle.run_frame.specs.Streams.{Streams}
use Rattle.run_frame.specs.Texts.{refusal_begun}
use Rattle.run_turns.specs.Games.{GameForm, GameEnd, end_status, end_text, GamePlays, GameCompletes}
use Rattle.run_play.specs.declared.no_plan.NoPlan.{NoPlan}
use Rattle.run_play.specs.declared.no_plan.NoPlan.TheVariants.{NoLine, Refused}

-- ---- what a caller sees

-- the third line is no line of a plan, or why it names no plan
abbrev pub no_plan_line_text : List ℕ
no_plan_line_text = as_line (refusal_begun 3 ++ codes "BadLine")

abbrev pub no_plan_text : PlanFault → List ℕ
no_plan_text fault = as_line (refusal_begun 3 ++ plan_fault_text (fault_of fault))

-- the exit status where there is no plan, and the text for the error stream
abbrev pub head_status : NoPlan → ℕ
head_status none = 4

abbrev pub head_text : NoPlan → List ℕ
head_text NoLine = no_plan_line_text
head_text (Refused fault) = no_plan_text fault

abbrev pub play_status : GameEnd NoPlan → ℕ
play_status = end_status head_status

abbrev pub play_text : GameEnd NoPlan → List ℕ
play_text = end_text head_text

-- ---- what is promised

-- how play ends without a plan
abbrev pub head_end : NoPlan → Option PlayEnd
head_end NoLine = Some ends.NoPlanLine
head_end (Refused fault) = Some (ends.NoPlan (fault_of fault))

-- Behind three lines, those of the game and the plan's, stands a line for each of White's moves; and a line is written for each.
abbrev pub play_form : GameForm NoPlan
play_form = record { given = play_of; head = 3; opening = 0; unread = 3; end_of = head_end; until = λ none. 3 }

-- how many lines are read at most: White makes at most 50 moves
abbrev pub most_play_lines : ℕ
most_play_lines = 54

-- `play`. Where it goes to the end of the input, or to a line that is no move, the lines that were written tell the duel by a
-- plan, in which White has no line; where there is no plan, nothing is written.
abbrev pub Plays : Streams → GameEnd NoPlan → Type 0
Plays s end = GamePlays play_form IsTold most_play_lines s end

-- the same, as a caller of `run` sees it
abbrev pub PlayRuns : Streams → (status : ℕ) → (text : List ℕ) → Type 0
PlayRuns s status text = EndsBy play_status play_text (Plays s) status text

-- how it ends on a game, a plan and moves of White's, where no stream failed
abbrev pub PlayCompletes : Option (List ℕ) → (status : ℕ) → Type 0
PlayCompletes input status = GameCompletes play_form input status

-- what it owes of a run
abbrev pub PlayOwes : Streams → (unread unwritten : Type 0) → GameEnd NoPlan → Type 0
PlayOwes = Owes play_status Plays PlayCompletes
