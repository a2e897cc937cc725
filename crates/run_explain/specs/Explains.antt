-- How `explain` ends, and what it promises of the bytes that it took and of its sink, by its end.
use Rattle.std.specs.Prelude.{◌≡◌, ℕ, Bool, true, false, if◌then◌else◌, List, [], Option, Result, Ok, Err, IfSome}
use Rattle.std.specs.Io.KnownBytes.{Appends, IsAtEnd}
use Rattle.device_rules.specs.Devices.{AppendsPrefix}
use Rattle.game_rules.specs.Position.{Position}
use Rattle.game_rules.specs.Text.{game_at}
use Rattle.walk_rules.specs.Walk.{solved}
use Rattle.explain_text.specs.Explanation.{explanation}
use Rattle.io_ports.specs.declared.ports.Failed.{Failed}
use Rattle.run_frame.specs.Ended.{EndsBy, Owes}
use Rattle.run_frame.specs.GameInput.{most_input, ReadsNoGame}
use Rattle.run_frame.specs.Stops.{of_result, run_stop_status, run_stop_text, sought_status}
use Rattle.run_frame.specs.Streams.{Streams, Took}
use Rattle.run_frame.specs.Texts.{stop_status, stop_text}
use Rattle.run_frame.specs.declared.game_input.InputStop.{InputStop}
use Rattle.run_frame.specs.declared.run_stop.RunStop.{RunStop}
use Rattle.run_frame.specs.declared.run_stop.RunStop.TheVariants.{Own, Write}
use Rattle.run_frame.specs.declared.run_stop.Sought.{Sought}
use Rattle.run_frame.specs.declared.run_stop.Sought.TheVariants.{Found, Missing}

-- how it ends: it finds a plan, or none, or something stops it
abbrev pub Explained : Type 0
Explained = Result Sought (RunStop InputStop)

-- the exit status of an end, and its text for the error stream
abbrev pub explained_status : Explained → ℕ
explained_status = of_result sought_status (run_stop_status stop_status)

abbrev pub explained_text : Explained → List ℕ
explained_text = of_result (λ sought. []) (run_stop_text stop_text)

-- the end of a run that wrote whether there is a plan, or failed to
abbrev pub explained_of : Result Bool Failed → Explained
explained_of (Ok true) = Ok Found
explained_of (Ok false) = Ok Missing
explained_of (Err failed) = Err Write

-- The bytes are a game, and what is chosen at its position was written; there is a plan, or there is none.
pub record HasExplained (reach : ℕ) (bytes : List ℕ) (found : Bool) (old new : Option (List ℕ)) : Type 0 where
  pub position : Position
  pub game : game_at bytes ≡ Ok position
  pub decided : solved position reach ≡ found
  pub written : Appends old new (explanation position reach)

-- the bytes are a game, and a prefix of that was written
pub record WasExplainedInPart (reach : ℕ) (bytes : List ℕ) (old new : Option (List ℕ)) : Type 0 where
  pub position : Position
  pub game : game_at bytes ≡ Ok position
  pub written : AppendsPrefix false old new (explanation position reach)

-- From the bytes that it took, by its end. What is written is of the game that they are, and all of the input was read then; a
-- fault is theirs, and that of all of the input, where the source tells it.
abbrev pub ExplainsFrom : ℕ → List ℕ → Streams → Explained → Type 0
ExplainsFrom reach taken s (Ok Found) = HasExplained reach taken true s.old s.new × IsAtEnd s.left
ExplainsFrom reach taken s (Ok Missing) = HasExplained reach taken false s.old s.new × IsAtEnd s.left
ExplainsFrom reach taken s (Err Write) = WasExplainedInPart reach taken s.old s.new × IsAtEnd s.left
ExplainsFrom reach taken s (Err (Own stop)) = ReadsNoGame taken s stop

-- `explain` with this reach
abbrev pub Explains : ℕ → Streams → Explained → Type 0
Explains reach s end = Took s most_input (λ taken. ExplainsFrom reach taken s end)

-- the same, as a caller of `run` sees it
abbrev pub ExplainRuns : ℕ → Streams → (status : ℕ) → (text : List ℕ) → Type 0
ExplainRuns reach s status text = EndsBy explained_status explained_text (Explains reach s) status text

-- How it ends on an input that is a game, where no stream failed: with a plan exactly where the position is solved within the
-- reach.
abbrev pub ExplainCompletes : ℕ → Option (List ℕ) → (status : ℕ) → Type 0
ExplainCompletes reach input status =
    (found : Bool) → IfSome input (λ bytes. (p : Position) → game_at bytes ≡ Ok p → solved p reach ≡ found → status ≡ (if found then 0 else 5))

-- what it owes of a run
abbrev pub ExplainOwes : ℕ → Streams → (unread unwritten : Type 0) → Explained → Type 0
ExplainOwes reach = Owes explained_status (Explains reach) (ExplainCompletes reach)
