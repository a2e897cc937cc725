-- What the checker finds, how it stops, and how many lemmas it has room for.
use Rattle.std.specs.Prelude.{◌≡◌, ℕ, ◌+◌, ◌<◌, ◌≤◌, List, map, Option, Some, None, Result, Ok, Err, ⊤}
use Rattle.proof_text.specs.Lemma.{Line, ALemma, ARemark, AVerdict}
use Rattle.proof_text.specs.Checked.{CheckerState, Why}
use Rattle.proof_text.specs.declared.Why.{Why as WhyOf}
use Rattle.proof_text.specs.declared.Why.TheVariants as whys
use Rattle.proof_lines.specs.Faults.{fault_of}
use Rattle.proof_lines.specs.PlanFault.{PlanFault}
use Rattle.proof_lines.specs.Shape.{cite_of}
use Rattle.proof_lines.specs.declared.lines.Cite.{Cite}
use Rattle.cert_checker.specs.declared.stops.AddStop.{AddStop}
use Rattle.cert_checker.specs.declared.stops.AddStop.TheVariants.{Refused, Memory}

-- the columns cited, in order
abbrev pub columns_of : List Cite → List ℕ
columns_of cites = map (λ cite. cite.column) (map cite_of cites)

-- why a line is refused, in the words of the definitions
abbrev pub why_of : WhyOf PlanFault → Why
why_of whys.BadLine = whys.BadLine
why_of whys.BadPath = whys.BadPath
why_of whys.NoSuchLemma = whys.NoSuchLemma
why_of whys.WrongPosition = whys.WrongPosition
why_of whys.WrongClaim = whys.WrongClaim
why_of whys.MissingMove = whys.MissingMove
why_of (whys.BadPlan fault) = whys.BadPlan (fault_of fault)
why_of whys.BadVerdict = whys.BadVerdict
why_of whys.EndedEarly = whys.EndedEarly

-- a test of the code and the refusal that the definitions give: the same name, or none
abbrev pub Finds : {X : Type 0} → Result X (WhyOf PlanFault) → Option Why → Type 0
Finds (Ok x) refusal = refusal ≡ None
Finds (Err why) refusal = refusal ≡ Some (why_of why)

abbrev pub IsLemma : Line → Type 0
IsLemma (ALemma l) = ⊤
IsLemma ARemark = ⊥
IsLemma (AVerdict v) = ⊥

-- what stands after the lines so far, how many lemma lines can be added without taking memory, for how many in all each of
-- the lists that they are kept in has memory, and the path whose position is at hand
pub record Checking : Type 0 where
  pub stands : CheckerState
  pub spare : ℕ
  pub memory : ℕ × ℕ
  pub path : List ℕ

-- behind a lemma that is its own
abbrev pub IsAt : Line → List ℕ → Type 0
IsAt (ALemma l) path = path ≡ l.path
IsAt ARemark path = ⊤
IsAt (AVerdict v) path = ⊤

-- An accepted lemma uses up room for one lemma at most, and takes memory only where there was no room. Any other line uses
-- up no room and takes no memory.
abbrev pub LeavesSpare : Line → Checking → Checking → Type 0
LeavesSpare (ALemma l) old new = (old.spare ≤ new.spare + 1) × (0 < old.spare → new.memory ≡ old.memory)
LeavesSpare ARemark old new = (new.spare ≡ old.spare) × (new.memory ≡ old.memory)
LeavesSpare (AVerdict v) old new = (new.spare ≡ old.spare) × (new.memory ≡ old.memory)

-- A line that is refused leaves all as it was, but for the path. Where no memory was found, one of the lists may have got
-- more.
abbrev pub StaysAs : Checking → Checking → AddStop → Type 0
StaysAs old new (Refused refused) = new ≡ record old { path = new.path }
StaysAs old new (Memory e) = new ≡ record old { memory = new.memory; path = new.path }

-- A line is refused by the name that the definitions give it, with its number; or, being a lemma that isn't refused and for
-- which there was no room, found no memory.
abbrev pub StopsAt : (spare at : ℕ) → AddStop → Option Why → Line → Type 0
StopsAt spare at (Refused refused) refusal line = (refusal ≡ Some (why_of refused.why)) × (refused.at ≡ at)
StopsAt spare at (Memory e) refusal line = (refusal ≡ None) × IsLemma line × (spare ≡ 0)
