-- How the lines behind the head of a proof are read, one after another: which stand, what was put for the lemmas that they say,
-- and of which bytes they are the lines.
use Rattle.std.specs.Prelude.{◌≡◌, ◌≢◌, ℕ, ◌+◌, Bool, true, false, List, [], ◌∷◌, ◌++◌, length, Option, Some, None, Result, Ok, Err, ⊤}
use Rattle.device_rules.specs.Devices.{AppendsPrefix}
use Rattle.game_rules.specs.Game.{IsTextOf}
use Rattle.game_rules.specs.Position.{Position, board_of}
use Rattle.io_ports.specs.Reading.{Pending, Reads, PassesLines}
use Rattle.proof_text.specs.Checked.{CheckerState, Why}
use Rattle.proof_text.specs.Lemma.{Lemma}
use Rattle.proof_text.specs.Texts.{pieces, lines_in, game_of, behind_game, first_line, first_number, bytes_refusal, with_bytes, start, lemmas_said}
use Rattle.proof_text.specs.declared.Verdict.{Verdict as Said}
use Rattle.proof_text.specs.declared.Version.{Version}
use Rattle.proof_text.specs.declared.Why.TheVariants.{EndedEarly}
use Rattle.cert_checker.specs.Checking.{why_of}
use Rattle.run_frame.specs.declared.game_input.InputStop.TheVariants as inputs
use Rattle.run_frame.specs.declared.run_stop.RunStop.{RunStop}
use Rattle.run_frame.specs.declared.run_stop.RunStop.TheVariants.{Own, Write}
use Rattle.run_proof.specs.Steps.{IsNextLemma}
use Rattle.run_proof.specs.Taken.{put_for}
use Rattle.run_proof.specs.Whole.{version_named}
use Rattle.run_proof.specs.declared.head.Head.{Head}
use Rattle.run_proof.specs.declared.lines.LinesRead.{LinesRead}
use Rattle.run_proof.specs.declared.lines.Until.{Until}
use Rattle.run_proof.specs.declared.lines.Until.TheVariants.{End, Verdict}
use Rattle.run_proof.specs.declared.stop.ProofStop.{ProofStop}
use Rattle.run_proof.specs.declared.stop.ProofStop.TheVariants as stops

-- ---- lines that stand

-- Behind what stands none of the lines is refused, of which the first has this number, and this stands behind them.
abbrev pub Stand : Version → CheckerState → ℕ → List (List ℕ) → CheckerState → Type 0
Stand version s at [] t = t ≡ s
Stand version s at (line ∷ lines) t = (bytes_refusal version s at line ≡ None) × Stand version (with_bytes version s line) (at + 1) lines t

-- how far the lines behind a game were gone through: what stands, the number of the next, and the lemmas that they say
pub record Progress : Type 0 where
  pub stands : CheckerState
  pub next : ℕ
  pub lemmas : List Lemma

abbrev pub begin : Position → Progress
begin root = record { stands = start root; next = first_number; lemmas = [] }

-- the lemmas that lines say behind what stands
abbrev pub said : Version → CheckerState → List (List ℕ) → List Lemma
said version s lines = lemmas_said version (board_of s.root) lines

-- these lines come next, and stand
pub record Passes (version : Version) (s : Progress) (lines : List (List ℕ)) (t : Progress) : Type 0 where
  pub stand : Stand version s.stands s.next lines t.stands
  pub counted : t.next ≡ s.next + length lines
  pub say : t.lemmas ≡ s.lemmas ++ said version s.stands lines

-- The bytes begin with the head of a proof, of a version that is asked for, and with lines that stand behind it; and these are
-- the further lines.
pub record HasLines (asked : Option Version) (head : Head) (t : Progress) (bytes : List ℕ) (rest : List (List ℕ)) : Type 0 where
  pub more : List (List ℕ)
  pub cut : pieces bytes ≡ first_line head.version ∷ more
  pub is_asked : version_named asked (first_line head.version) ≡ Some head.version
  pub text : IsTextOf (game_of more) head.game
  pub lines : List (List ℕ)
  pub all : behind_game more ≡ lines ++ rest
  pub passes : Passes head.version (begin head.game.position) lines t

-- ---- lines that are read

-- Lines were read, and stand; what is put for the lemmas that they say was put, or a prefix of it where that isn't nothing. Of
-- the bytes that were left before them and of those that are left behind them this holds.
pub record HasRead (version : Version) (puts : Position → List Lemma → Lemma → List ℕ) (whole : Bool) (s t : Progress) (a b : Pending)
    (old new : Option (List ℕ)) (Ends : List (List ℕ) → List ℕ → List ℕ → Type 0) : Type 0 where
  pub lines : List (List ℕ)
  pub passes : Passes version s lines t
  pub written : AppendsPrefix whole old new (put_for puts s.stands.root s.lemmas (said version s.stands lines))
  pub some : whole ≡ false → put_for puts s.stands.root s.lemmas (said version s.stands lines) ≢ []
  pub reads : Reads a b (Ends lines)

-- they are the next lines
abbrev pub Cuts : List (List ℕ) → List ℕ → List ℕ → Type 0
Cuts lines bytes rest = PassesLines (length lines) bytes rest × (lines_in (pieces bytes) ≡ lines ++ lines_in (pieces rest))

-- they are all lines that were left
abbrev pub AreAll : List (List ℕ) → List ℕ → List ℕ → Type 0
AreAll lines bytes rest = PassesLines (length lines + 1) bytes rest × (lines_in (pieces bytes) ≡ lines)

-- They were read to their end, or to the verdict where that was asked for and there is one. The end of the input was reached then.
abbrev pub EndsAt : Until → Option Said → List (List ℕ) → List ℕ → List ℕ → Type 0
EndsAt End verdict lines bytes rest = AreAll lines bytes rest
EndsAt Verdict None lines bytes rest = AreAll lines bytes rest
EndsAt Verdict (Some v) lines bytes rest = Cuts lines bytes rest

abbrev pub IsEnded : Until → Bool → Type 0
IsEnded End ended = ended ≡ true
IsEnded Verdict ended = ⊤

-- where it is read to the verdict there was none yet
abbrev pub IsOpen : Until → CheckerState → Type 0
IsOpen End s = ⊤
IsOpen Verdict s = s.verdict ≡ None

-- ---- what stops the reading

-- behind what stands the first of the lines is refused by this name, or there is none, and no verdict
abbrev pub IsRefused : Version → CheckerState → ℕ → List (List ℕ) → Why → Type 0
IsRefused version s at [] why = (s.verdict ≡ None) × (why ≡ EndedEarly)
IsRefused version s at (line ∷ lines) why = bytes_refusal version s at line ≡ Some why

-- it isn't refused, and is a lemma
abbrev pub IsLemmaNext : Version → CheckerState → ℕ → List (List ℕ) → Type 0
IsLemmaNext version s at [] = ⊥
IsLemmaNext version s at (line ∷ lines) = IsNextLemma version s at line

-- what stops the reading at the first of the lines, which has this number
abbrev pub StopsIn : Version → CheckerState → ℕ → List (List ℕ) → ProofStop → Type 0
StopsIn version s at lines (stops.Refused r) = (r.at ≡ at) × IsRefused version s at lines (why_of r.why)
StopsIn version s at lines stops.Memory = IsLemmaNext version s at lines
StopsIn version s at lines (stops.Input inputs.Read) = ⊤
StopsIn version s at lines (stops.Input (inputs.NoGame fault)) = ⊥

-- how many lines are passed then, at most, behind so many: none where the source failed
abbrev pub passed_until : ProofStop → ℕ → ℕ
passed_until (stops.Input why) n = n
passed_until (stops.Refused r) n = n + 1
passed_until stops.Memory n = n + 1

-- the next lines are these, and the line behind them stops the reading
pub record StopsBehind (version : Version) (t : Progress) (stop : ProofStop) (lines : List (List ℕ)) (bytes rest : List ℕ) : Type 0 where
  pub few : PassesLines (passed_until stop (length lines)) bytes rest
  pub more : List (List ℕ)
  pub cut : lines_in (pieces bytes) ≡ lines ++ more
  pub stops : StopsIn version t.stands t.next more stop

-- ---- one line, and all

-- the taker has got as many lemmas as stand
pub record InStep (Holds : Position → List Lemma → Type 0) (s : CheckerState) : Type 0 where
  pub lemmas : List Lemma
  pub got : Holds s.root lemmas
  pub many : length lemmas ≡ length s.known

-- no more lines are to be read, where there is a verdict or none yet
abbrev pub is_done : Until → Bool → Bool
is_done End found = false
is_done Verdict found = found

-- One line more was read, and then this stands; or there is none, or the verdict was there; or something stopped the reading. The
-- taker has got what was said.
abbrev pub AddsNext : Until → Version → (Holds : List Lemma → Type 0) → (puts : Position → List Lemma → Lemma → List ℕ) → Progress → CheckerState
    → Pending → Pending → Bool → Option (List ℕ) → Option (List ℕ) → Result Bool (RunStop ProofStop) → Type 0
AddsNext until version Holds puts s after a b ended old new (Ok true) = (ms : List Lemma) × Holds ms
    × HasRead version puts true s (record { stands = after; next = s.next + 1; lemmas = ms }) a b old new Cuts
AddsNext until version Holds puts s after a b ended old new (Ok false) =
    (after ≡ s.stands) × Holds s.lemmas × IsEnded until ended × HasRead version puts true s s a b old new (EndsAt until s.stands.verdict)
AddsNext until version Holds puts s after a b ended old new (Err (Own stop)) =
    IsOpen until s.stands × Holds s.lemmas × HasRead version puts true s s a b old new (StopsBehind version s stop)
AddsNext until version Holds puts s after a b ended old new (Err Write) = (t : Progress) × HasRead version puts false s t a b old new Cuts

-- what was read says this
abbrev pub Says : Progress → LinesRead → Type 0
Says t read = (t.next ≡ read.end) × (t.stands.verdict ≡ Some read.accepted.verdict) × (read.accepted.lemmas ≡ length t.stands.known)

-- All lines were read that were to be, from the game's position on, or something stopped the reading.
abbrev pub ReadsLines : Until → Version → (Holds : List Lemma → Type 0) → (puts : Position → List Lemma → Lemma → List ℕ) → Position
    → Pending → Pending → Bool → Option (List ℕ) → Option (List ℕ) → Result LinesRead (RunStop ProofStop) → Type 0
ReadsLines until version Holds puts root a b ended old new (Ok read) =
    (t : Progress) × Says t read × Holds t.lemmas × IsEnded until ended × HasRead version puts true (begin root) t a b old new (EndsAt until t.stands.verdict)
ReadsLines until version Holds puts root a b ended old new (Err (Own stop)) =
    (t : Progress) × IsOpen until t.stands × Holds t.lemmas × HasRead version puts true (begin root) t a b old new (StopsBehind version t stop)
ReadsLines until version Holds puts root a b ended old new (Err Write) = (t : Progress) × HasRead version puts false (begin root) t a b old new Cuts
