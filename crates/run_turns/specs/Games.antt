-- What is promised of a command that plays an input line by line: a head of so many lines, which the command reads itself, and
-- then a line for each move of one side. What a command says that stops it before the moves is `H`. What is said of what a sink
-- holds is said of a sink that tells it.
use Rattle.std.specs.Prelude.{◌≡◌, ◌⊎◌, ℕ, ◌+◌, ◌-◌, ◌*◌, Bool, true, false, List, [], ◌++◌, length, Option, Some, None, IfSome, Result, Ok, Err, ⊤}
use Rattle.std.specs.Io.KnownBytes.{Appends, IsAtEnd}
use Rattle.device_rules.specs.Devices.{AppendsPrefix}
use Rattle.io_ports.specs.Lines.{most_held}
use Rattle.proof_text.specs.Texts.{longest_line}
use Rattle.play_text.specs.Play as ends
use Rattle.play_text.specs.Play.{PlayEnd, Played, text_of}
use Rattle.run_frame.specs.Streams.{Streams, Took, TakesLines, WaitsBehind}
use Rattle.run_frame.specs.Texts as inputs
use Rattle.run_frame.specs.Stops.{of_result, run_stop_status, run_stop_text}
use Rattle.run_frame.specs.declared.game_input.InputStop.TheVariants.{NoGame, Read}
use Rattle.run_frame.specs.declared.run_stop.RunStop.{RunStop}
use Rattle.run_frame.specs.declared.run_stop.RunStop.TheVariants.{Own, Write}
use Rattle.run_turns.specs.Turns.{move_fault_line}
use Rattle.run_turns.specs.declared.game_end.GameStop.{GameStop}
use Rattle.run_turns.specs.declared.game_end.GameStop.TheVariants.{Input, Head, NoMove}

-- A game as one command plays it: what comes of an input; how many lines of an input stand before the moves, how many lines are
-- written before the answers to them, and how many were read at most where the source failed before that; and for what stops the
-- command before the moves, which end it is, or none, where the game would have gone on, and how many lines are read by then at
-- most.
pub record GameForm (H : Type 0) : Type 0 where
  pub given : List ℕ → Played
  pub head : ℕ
  pub opening : ℕ
  pub unread : ℕ
  pub end_of : H → Option PlayEnd
  pub until : H → ℕ

-- ---- what a caller sees

-- how a run ends: all moves were played, or something stopped it
abbrev pub GameEnd : Type 0 → Type 0
GameEnd H = Result ⊤ (RunStop (GameStop H))

-- the exit status, and the text for the error stream
abbrev pub stop_status : {H : Type 0} → (H → ℕ) → GameStop H → ℕ
stop_status status_of (Input why) = inputs.stop_status why
stop_status status_of (Head h) = status_of h
stop_status status_of (NoMove fault) = 3

abbrev pub stop_text : {H : Type 0} → (H → List ℕ) → GameStop H → List ℕ
stop_text words_of (Input why) = inputs.stop_text why
stop_text words_of (Head h) = words_of h
stop_text words_of (NoMove fault) = move_fault_line fault

abbrev pub end_status : {H T : Type 0} → (H → ℕ) → Result T (RunStop (GameStop H)) → ℕ
end_status status_of = of_result (λ done. 0) (run_stop_status (stop_status status_of))

abbrev pub end_text : {H : Type 0} → (H → List ℕ) → GameEnd H → List ℕ
end_text words_of = of_result (λ done. []) (run_stop_text (stop_text words_of))

-- ---- what is promised

-- The definitions say this of what comes of the bytes that were taken; and of all of the input, where the source tells it.
abbrev pub IsPlayed : {H : Type 0} → GameForm H → List ℕ → Option (List ℕ) → List (List ℕ) → PlayEnd → Type 0
IsPlayed form taken input lines end =
    (form.given taken ≡ record { lines = lines; end = end }) × IfSome input (λ bytes. form.given bytes ≡ record { lines = lines; end = end })

-- these are the first of the lines that an input gives
abbrev pub BeginsPlay : {H : Type 0} → GameForm H → List (List ℕ) → List ℕ → Type 0
BeginsPlay form lines bytes = (more : List (List ℕ)) × ((form.given bytes).lines ≡ lines ++ more)

abbrev pub HasBegun : {H : Type 0} → GameForm H → List ℕ → Option (List ℕ) → List (List ℕ) → Type 0
HasBegun form taken input lines = BeginsPlay form lines taken × IfSome input (BeginsPlay form lines)

-- how many of the lines that were written are answers: all but those that stand before them
abbrev pub answers : {H : Type 0} → GameForm H → List (List ℕ) → ℕ
answers form lines = length lines - form.opening

-- It came to this end. All lines that the definitions give were written, and they tell what the command's lines tell at this end;
-- and no more was taken than so many lines, one for each answer, and what came with them.
abbrev pub Ended : {H : Type 0} → GameForm H → (List ℕ → List (List ℕ) → PlayEnd → Type 0) → List ℕ → Streams → PlayEnd → (besides : ℕ) → Type 0
Ended form Told taken s end besides =
    (lines : List (List ℕ)) × IsPlayed form taken s.input lines end × Told taken lines end × Appends s.old s.new (text_of lines)
    × TakesLines (besides + answers form lines) s.last_read taken

-- It would have gone on. Some first ones of the lines that the definitions give were written, the last of them maybe not whole,
-- and no more was taken than so many lines, one for each answer, and what came with them.
abbrev pub CutShort : {H : Type 0} → GameForm H → List ℕ → Streams → (whole : Bool) → (besides : ℕ) → Type 0
CutShort form taken s whole besides =
    (lines : List (List ℕ)) × HasBegun form taken s.input lines × AppendsPrefix whole s.old s.new (text_of lines)
    × TakesLines (besides + answers form lines) s.last_read taken

-- what stopped the command before the moves is an end, or play would have gone on
abbrev pub EndedBefore : {H : Type 0} → GameForm H → (List ℕ → List (List ℕ) → PlayEnd → Type 0) → List ℕ → Streams → Option PlayEnd → (besides : ℕ) → Type 0
EndedBefore form Told taken s (Some end) besides = Ended form Told taken s end besides
EndedBefore form Told taken s None besides = CutShort form taken s true besides

-- Where the source failed, the lines before the answers and so many answers were written, and no whole line of the other side's
-- was taken without its answer; or nothing was written, and no more lines were read than may be by then.
abbrev pub Awaits : {H : Type 0} → GameForm H → List (List ℕ) → List ℕ → Type 0
Awaits form lines taken =
    ((n : ℕ) × (length lines ≡ form.opening + n) × WaitsBehind (form.head + n) taken) ⊎ ((lines ≡ []) × WaitsBehind form.unread taken)

-- From the bytes that it took, by its end. No more was taken than the lines before the moves, a line for each answer and the one
-- that is no move, and what came with them. Where the source failed, each whole line of the other side's that was taken by then
-- has its answer.
abbrev pub GameFrom : {H : Type 0} → GameForm H → (List ℕ → List (List ℕ) → PlayEnd → Type 0) → List ℕ → Streams → GameEnd H → Type 0
GameFrom form Told taken s (Ok done) = Ended form Told taken s ends.AllPlayed (form.head + 1) × IsAtEnd s.left
GameFrom form Told taken s (Err (Own (NoMove fault))) = Ended form Told taken s (ends.NoMove fault) (form.head + 1)
GameFrom form Told taken s (Err (Own (Input (NoGame fault)))) = Ended form Told taken s (ends.NoGame fault) 2
GameFrom form Told taken s (Err (Own (Head h))) = EndedBefore form Told taken s (form.end_of h) (form.until h)
GameFrom form Told taken s (Err (Own (Input Read))) =
    (lines : List (List ℕ)) × HasBegun form taken s.input lines × Appends s.old s.new (text_of lines) × Awaits form lines taken
GameFrom form Told taken s (Err Write) = CutShort form taken s false form.head

-- a command that takes so many lines with their line feeds at most, and what comes with the last of them
abbrev pub GamePlays : {H : Type 0} → GameForm H → (List ℕ → List (List ℕ) → PlayEnd → Type 0) → (most : ℕ) → Streams → GameEnd H → Type 0
GamePlays form Told most s end = Took s (most * (longest_line + 1) + most_held) (λ taken. GameFrom form Told taken s end)

-- how it ends on an input that is played to its end, where no stream failed
abbrev pub GameCompletes : {H : Type 0} → GameForm H → Option (List ℕ) → (status : ℕ) → Type 0
GameCompletes form input status = IfSome input (λ bytes. (form.given bytes).end ≡ ends.AllPlayed → status ≡ 0)

-- the other side makes at most so many moves: a board has at most a hundred squares
abbrev pub most_moves : ℕ
most_moves = 50
