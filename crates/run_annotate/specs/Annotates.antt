-- How `annotate` ends, and what it promises of the bytes that it took and of its sink, by its end. What is said of what a sink
-- holds is said of a sink that tells it.
use Rattle.std.specs.Prelude.{◌≡◌, ◌⊎◌, ℕ, Bool, true, false, List, [], Option, Result, Ok, Err, IfSome, ⊤}
use Rattle.std.specs.Io.KnownBytes.{Keeps, IsAtEnd}
use Rattle.game_rules.specs.Game.{Game, board_played, IsTextOf}
use Rattle.game_rules.specs.Position.{Position}
use Rattle.game_rules.specs.Text.{game_at}
use Rattle.tool_text.specs.Marks.{AreLastMarks}
use Rattle.tool_text.specs.declared.Mark.{Mark}
use Rattle.run_frame.specs.Ended.{EndsBy, Owes}
use Rattle.run_frame.specs.GameInput.{most_input, ReadsNoGame}
use Rattle.run_frame.specs.Stops.{of_result, run_stop_status, run_stop_text, memory_stop_status, memory_stop_text}
use Rattle.run_frame.specs.Streams.{Streams, Took}
use Rattle.run_frame.specs.Texts.{stop_status, stop_text}
use Rattle.run_frame.specs.declared.game_input.InputStop.{InputStop}
use Rattle.run_frame.specs.declared.run_stop.MemoryStop.{MemoryStop}
use Rattle.run_frame.specs.declared.run_stop.MemoryStop.TheVariants.{Input, Memory}
use Rattle.run_frame.specs.declared.run_stop.RunStop.{RunStop}
use Rattle.run_frame.specs.declared.run_stop.RunStop.TheVariants.{Own, Write}
use Rattle.run_annotate.specs.Dear.{IsSearched}
use Rattle.run_annotate.specs.Lines.{moves_before, PutsLines}

-- how it ends: it marks the moves, or something stops it
abbrev pub Annotated : Type 0
Annotated = Result ⊤ (RunStop (MemoryStop InputStop))

-- the exit status of an end
abbrev pub annotated_status : Annotated → ℕ
annotated_status = of_result (λ done. 0) (run_stop_status (memory_stop_status stop_status))

-- The bytes are the text of a game. Its last moves, or all where there are fewer, have these marks: one is left open only where
-- so many nodes are below the cost of the position before or after its move, and another stands only where right lemmas, at most
-- so many for each of the two, show their values. Their lines were written, or, where they weren't
-- written whole, a prefix of them.
pub record HasAnnotated (whole : Bool) (nodes reach last : ℕ) (bytes : List ℕ) (old new : Option (List ℕ)) : Type 0 where
  pub game : Game
  pub text : IsTextOf bytes game
  pub marks : List Mark
  pub right : AreLastMarks (IsSearched nodes reach) (board_played game) game.moves last marks
  pub puts : PutsLines game (moves_before game last) marks whole old new

-- With so many nodes, this reach and so many moves, from the bytes that it took, by its end. What is written is of the game that
-- they are, and all of the input was read then, as it was where memory runs out; a fault is theirs, and that of all of the
-- input, where the source tells it.
abbrev pub AnnotatesFrom : (nodes reach last : ℕ) → List ℕ → Streams → Annotated → Type 0
AnnotatesFrom nodes reach last taken s (Ok done) = HasAnnotated true nodes reach last taken s.old s.new × IsAtEnd s.left
AnnotatesFrom nodes reach last taken s (Err Write) = HasAnnotated false nodes reach last taken s.old s.new × IsAtEnd s.left
AnnotatesFrom nodes reach last taken s (Err (Own Memory)) = ((game : Game) × IsTextOf taken game) × IsAtEnd s.left × Keeps s.old s.new
AnnotatesFrom nodes reach last taken s (Err (Own (Input stop))) = ReadsNoGame taken s stop

-- `annotate` with these numbers
abbrev pub Annotates : (nodes reach last : ℕ) → Streams → Annotated → Type 0
Annotates nodes reach last s end = Took s most_input (λ taken. AnnotatesFrom nodes reach last taken s end)

-- the same, as a caller of `run` sees it
abbrev pub AnnotateRuns : (nodes reach last : ℕ) → Streams → (status : ℕ) → (text : List ℕ) → Type 0
AnnotateRuns nodes reach last s status text = EndsBy annotated_status (of_result (λ done. []) (run_stop_text (memory_stop_text stop_text))) (Annotates nodes reach last s) status text

-- how it ends on a game, where no stream failed: its moves are marked, unless memory runs out
abbrev pub AnnotateCompletes : Option (List ℕ) → (status : ℕ) → Type 0
AnnotateCompletes input status = IfSome input (λ bytes. (p : Position) → game_at bytes ≡ Ok p → (status ≡ 0) ⊎ (status ≡ 8))

-- what it owes of a run
abbrev pub AnnotateOwes : (nodes reach last : ℕ) → Streams → (unread unwritten : Type 0) → Annotated → Type 0
AnnotateOwes nodes reach last = Owes annotated_status (Annotates nodes reach last) AnnotateCompletes
