-- How `prove` ends, and what it promises of the bytes that it took and of its sink, by its end. What is said of what a sink holds
-- is said of a sink that tells it.
use Rattle.std.specs.Prelude.{◌≡◌, ◌≢◌, ◌⊎◌, ℕ, ◌<◌, ◌≤◌, false, List, [], Option, Result, Ok, Err, IfSome}
use Rattle.std.specs.Io.KnownBytes.{Keeps, Appends, IsAtEnd}
use Rattle.device_rules.specs.Devices.{AppendsPrefix}
use Rattle.game_rules.specs.Position.{Position}
use Rattle.game_rules.specs.Cost.{cost}
use Rattle.game_rules.specs.Text.{game_at}
use Rattle.proof_text.specs.declared.Verdict.{Verdict}
use Rattle.proof_text.specs.declared.Verdict.TheVariants as verdicts
use Rattle.proof_text.specs.declared.Version.{Version}
use Rattle.position_table.specs.declared.table.TheConstants.{MOST_ROOM}
use Rattle.run_questions.specs.Planned.{solved_within}
use Rattle.io_ports.specs.declared.ports.Failed.{Failed}
use Rattle.run_frame.specs.Ended.{EndsBy, Owes}
use Rattle.run_frame.specs.GameInput.{most_input, ReadsNoGame}
use Rattle.run_frame.specs.Stops.{of_result, run_stop_status, run_stop_text, memory_stop_status, memory_stop_text, sought_status}
use Rattle.run_frame.specs.Streams.{Streams, Took}
use Rattle.run_frame.specs.Texts.{stop_status, stop_text}
use Rattle.run_frame.specs.declared.game_input.InputStop.{InputStop}
use Rattle.run_frame.specs.declared.run_stop.MemoryStop.{MemoryStop}
use Rattle.run_frame.specs.declared.run_stop.MemoryStop.TheVariants.{Input, Memory}
use Rattle.run_frame.specs.declared.run_stop.RunStop.{RunStop}
use Rattle.run_frame.specs.declared.run_stop.RunStop.TheVariants.{Own, Write}
use Rattle.run_frame.specs.declared.run_stop.Sought.{Sought}
use Rattle.run_frame.specs.declared.run_stop.Sought.TheVariants.{Found, Missing}
use Rattle.run_prove.specs.Proof.{IsProofOf, MayStandFor}

-- how many settled positions a table may keep
abbrev pub IsRoom : ℕ → Type 0
IsRoom n = (1 ≤ n) × (n ≤ MOST_ROOM)

-- how it ends: it finds the value, or leaves it unknown, or something stops it
abbrev pub Proved : Type 0
Proved = Result Sought (RunStop (MemoryStop InputStop))

-- the exit status of an end, and its text for the error stream
abbrev pub proved_status : Proved → ℕ
proved_status = of_result sought_status (run_stop_status (memory_stop_status stop_status))

abbrev pub proved_text : Proved → List ℕ
proved_text = of_result (λ sought. []) (run_stop_text (memory_stop_text stop_text))

-- the end of a run that wrote a proof with the verdict, or failed to
abbrev pub proved_of : Result Verdict Failed → Proved
proved_of (Ok (verdicts.Win lemma)) = Ok Found
proved_of (Ok (verdicts.Loss lemma)) = Ok Found
proved_of (Ok (verdicts.Draw white black)) = Ok Found
proved_of (Ok verdicts.Unknown) = Ok Missing
proved_of (Err failed) = Err Write

abbrev pub IsGame : List ℕ → Type 0
IsGame bytes = (p : Position) × (game_at bytes ≡ Ok p)

-- The bytes are a game, and a proof of its position in this version was written whose verdict is a win, a loss or a draw.
pub record HasProved (version : Version) (nodes reach : ℕ) (slots : Option ℕ) (bytes : List ℕ) (old new : Option (List ℕ)) : Type 0 where
  pub position : Position
  pub game : game_at bytes ≡ Ok position
  pub verdict : Verdict
  pub known : verdict ≢ verdicts.Unknown
  pub text : List ℕ
  pub proof : IsProofOf version nodes reach slots bytes position text verdict
  pub written : Appends old new text

-- The same with the verdict unknown, which comes only where the number of nodes is below the position's cost.
pub record LeavesUnknown (version : Version) (nodes reach : ℕ) (slots : Option ℕ) (bytes : List ℕ) (old new : Option (List ℕ)) : Type 0 where
  pub position : Position
  pub game : game_at bytes ≡ Ok position
  pub short : nodes < cost (solved_within reach) position
  pub text : List ℕ
  pub proof : IsProofOf version nodes reach slots bytes position text verdicts.Unknown
  pub written : Appends old new text

-- The bytes are a game, and of a text that may stand while a proof is written a prefix was.
pub record WasCut (version : Version) (nodes reach : ℕ) (slots : Option ℕ) (bytes : List ℕ) (old new : Option (List ℕ)) : Type 0 where
  pub position : Position
  pub game : game_at bytes ≡ Ok position
  pub text : List ℕ
  pub stands : MayStandFor version nodes reach slots bytes position text
  pub written : AppendsPrefix false old new text

-- In this version, with so many nodes, this reach and a front of so many slots, if any, from the bytes that it took, by its
-- end. A proof is of the game that they are, and all of the input was read then, as it was where memory runs out; a fault is theirs, and that of all of
-- the input, where the source tells it.
abbrev pub ProvesFrom : Version → (nodes reach : ℕ) (slots : Option ℕ) → List ℕ → Streams → Proved → Type 0
ProvesFrom version nodes reach slots taken s (Ok Found) = HasProved version nodes reach slots taken s.old s.new × IsAtEnd s.left
ProvesFrom version nodes reach slots taken s (Ok Missing) = LeavesUnknown version nodes reach slots taken s.old s.new × IsAtEnd s.left
ProvesFrom version nodes reach slots taken s (Err Write) = WasCut version nodes reach slots taken s.old s.new × IsAtEnd s.left
ProvesFrom version nodes reach slots taken s (Err (Own (Input stop))) = ReadsNoGame taken s stop
ProvesFrom version nodes reach slots taken s (Err (Own Memory)) = IsGame taken × IsAtEnd s.left × Keeps s.old s.new

-- `prove` with this version and these numbers
abbrev pub Proves : Version → (nodes reach : ℕ) (slots : Option ℕ) → Streams → Proved → Type 0
Proves version nodes reach slots s end = Took s most_input (λ taken. ProvesFrom version nodes reach slots taken s end)

-- the same, as a caller of `run` sees it
abbrev pub ProveRuns : Version → (nodes reach : ℕ) (slots : Option ℕ) → Streams → (status : ℕ) → (text : List ℕ) → Type 0
ProveRuns version nodes reach slots s status text = EndsBy proved_status proved_text (Proves version nodes reach slots s) status text

-- how it ends on a game whose cost is within the budget, where no stream failed: with its value, unless memory runs out
abbrev pub ProveCompletes : (nodes reach : ℕ) → Option (List ℕ) → (status : ℕ) → Type 0
ProveCompletes nodes reach input status =
    IfSome input (λ bytes. (p : Position) → game_at bytes ≡ Ok p → cost (solved_within reach) p ≤ nodes → (status ≡ 0) ⊎ (status ≡ 8))

-- what it owes of a run
abbrev pub ProveOwes : Version → (nodes reach : ℕ) (slots : Option ℕ) → Streams → (unread unwritten : Type 0) → Proved → Type 0
ProveOwes version nodes reach slots = Owes proved_status (Proves version nodes reach slots) (ProveCompletes nodes reach)
