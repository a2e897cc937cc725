-- How `drill` ends, and what it promises of its sink, by its end. What is said of what a sink holds is said of a sink that tells
-- it.
use Rattle.std.specs.Prelude.{◌≡◌, ◌⊎◌, ℕ, Bool, true, false, List, [], ◌++◌, Option, Result, Ok, Err, ⊤, codes, decimal}
use Rattle.std.specs.Io.KnownBytes.{Keeps}
use Rattle.device_rules.specs.Devices.{AppendsPrefix}
use Rattle.game_rules.specs.Position.{Position}
use Rattle.game_rules.specs.Cost.{cost}
use Rattle.proof_text.specs.Spelling.{as_line}
use Rattle.run_questions.specs.Planned.{solved_within}
use Rattle.drill_games.specs.Games.{games_from}
use Rattle.drill_games.specs.Summary.{IsSummary}
use Rattle.drill_games.specs.declared.tally.Tally.{Tally}
use Rattle.run_frame.specs.Ended.{EndsBy}
use Rattle.run_frame.specs.Stops.{of_result, run_stop_status, run_stop_text}
use Rattle.run_frame.specs.Streams.{Streams, IsUnread}
use Rattle.run_frame.specs.Texts.{memory_line}
use Rattle.run_frame.specs.declared.run_stop.RunStop.{RunStop}
use Rattle.run_frame.specs.declared.run_stop.RunStop.TheVariants.{Own, Write}
use Rattle.std.specs.declared.alloc.AllocError.{AllocError}
use Rattle.run_drill.specs.declared.drilled.Drilling.{Drilling}

-- the games that it makes
abbrev pub games_of : Drilling → List Position
games_of how = games_from how.games how.size how.moves how.seed

-- how it ends: it counts the games, or something stops it
abbrev pub Drilled : Type 0
Drilled = Result ⊤ (RunStop AllocError)

-- the exit status of an end, and its text for the error stream
abbrev pub drilled_status : Drilled → ℕ
drilled_status = of_result (λ done. 0) (run_stop_status (λ none. 8))

abbrev pub drilled_text : Drilled → List ℕ
drilled_text = of_result (λ done. []) (run_stop_text (λ none. memory_line))

-- the one line that is written, with the four counts
abbrev pub drill_line : Tally → List ℕ
drill_line tally = as_line (codes "drill win " ++ decimal tally.won ++ codes " draw " ++ decimal tally.drawn ++ codes " loss " ++ decimal tally.lost ++ codes " unknown " ++ decimal tally.unknown)

-- The line of counts that are right of the games, each searched within so many nodes and with this reach, was written, or,
-- where it wasn't written whole, a prefix of it.
pub record HasDrilled (whole : Bool) (games : List Position) (nodes reach : ℕ) (old new : Option (List ℕ)) : Type 0 where
  pub tally : Tally
  pub right : IsSummary (cost (solved_within reach)) nodes games tally
  pub written : AppendsPrefix whole old new (drill_line tally)

-- `drill` on games with so many nodes and this reach, by its end. Memory is taken before anything is written.
abbrev pub Drills : List Position → (nodes reach : ℕ) → (old new : Option (List ℕ)) → Drilled → Type 0
Drills games nodes reach old new (Ok done) = HasDrilled true games nodes reach old new
Drills games nodes reach old new (Err Write) = HasDrilled false games nodes reach old new
Drills games nodes reach old new (Err (Own none)) = Keeps old new

-- the same, as a caller of `run` sees it: it takes nothing of its source
abbrev pub DrillRuns : List Position → (nodes reach : ℕ) → Streams → (status : ℕ) → (text : List ℕ) → Type 0
DrillRuns games nodes reach s status text = IsUnread s × EndsBy drilled_status drilled_text (Drills games nodes reach s.old s.new) status text

-- how it ends where its sink didn't fail: the games are counted, unless memory runs out
abbrev pub DrillCompletes : (status : ℕ) → Type 0
DrillCompletes status = (status ≡ 0) ⊎ (status ≡ 8)
