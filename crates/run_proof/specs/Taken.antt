-- The lemmas that the text of a proof says, and what a taker does with each.
use Rattle.std.specs.Prelude.{◌≡◌, ◌≢◌, ℕ, ◌+◌, false, List, [], ◌∷◌, ◌++◌, length, Option, Some, None, Result, Ok, Err, ⊤}
use Rattle.std.specs.Io.KnownBytes.{Keeps, Appends}
use Rattle.device_rules.specs.Devices.{AppendsPrefix}
use Rattle.game_rules.specs.Board.{Board}
use Rattle.game_rules.specs.Position.{Position, board_of, played}
use Rattle.game_rules.specs.Text.{game_at}
use Rattle.game_rules.specs.declared.InputFault.{InputFault}
use Rattle.proof_text.specs.Checked.{lemmas_in}
use Rattle.proof_text.specs.Lemma.{Lemma, Line, ALemma, ARemark, AVerdict}
use Rattle.proof_text.specs.Spelling.{Fits}
use Rattle.proof_text.specs.Texts.{pieces, game_of, behind_game}
pub use Rattle.proof_text.specs.Texts.{lemmas_said}
use Rattle.proof_text.specs.declared.Version.{Version}
use Rattle.cert_checker.specs.Checking.{IsLemma}
use Rattle.run_frame.specs.declared.run_stop.RunStop.{RunStop}
use Rattle.run_frame.specs.declared.run_stop.RunStop.TheVariants as runs
use Rattle.run_proof.specs.Whole.{version_named}
use Rattle.run_proof.specs.declared.stop.ProofStop.{ProofStop}
use Rattle.run_proof.specs.declared.stop.ProofStop.TheVariants as stops
use Rattle.run_proof.specs.declared.taker.NotTaken.{NotTaken}
use Rattle.run_proof.specs.declared.taker.NotTaken.TheVariants as untaken

-- ---- what is said

-- those that the lines behind a game say; where there is no game, there is none
abbrev pub game_lemmas : Version → Result Position InputFault → List (List ℕ) → List Lemma
game_lemmas version (Err fault) lines = []
game_lemmas version (Ok root) lines = lemmas_said version (board_of root) lines

abbrev pub version_lemmas : Option Version → List (List ℕ) → List Lemma
version_lemmas None more = []
version_lemmas (Some version) more = game_lemmas version (game_at (game_of more)) (behind_game more)

abbrev pub pieces_lemmas : Option Version → List (List ℕ) → List Lemma
pieces_lemmas asked [] = []
pieces_lemmas asked (first ∷ more) = version_lemmas (version_named asked first) more

-- the lemmas that a text of a version that is asked for says behind its game, in their order
unfoldable pub text_lemmas : Option Version → List ℕ → List Lemma
text_lemmas asked bytes = pieces_lemmas asked (pieces bytes)

-- ---- what is taken

-- the lemma has the number behind these, and stands at this position
abbrev pub IsBehind : Position → List Lemma → Lemma → Position → Type 0
IsBehind root ls l p = (l.number ≡ length ls + 1) × (played root l.path ≡ Some p)

abbrev pub IsSpelled : Lemma → Type 0
IsSpelled l = (board : Board) × Fits board l

-- it may be taken: it is behind those that the taker has got of some game, and has a spelling
pub record IsNext (Holds : Position → List Lemma → Type 0) (l : Lemma) (p : Position) : Type 0 where
  pub root : Position
  pub lemmas : List Lemma
  pub got : Holds root lemmas
  pub behind : IsBehind root lemmas l p
  pub spelled : IsSpelled l

-- The lemma was taken, and what is put for it was put; or memory ran out, and all stays as it was; or the sink failed, and a prefix
-- of that was put, which isn't nothing.
abbrev pub Takes : (Position → List Lemma → Type 0) → (Position → List Lemma → Lemma → List ℕ) → Position → List Lemma → Lemma
    → Option (List ℕ) → Option (List ℕ) → {X : Type 0} → Result X NotTaken → Type 0
Takes Holds puts root ls l old new (Ok x) = Holds root (ls ++ l ∷ []) × Appends old new (puts root ls l)
Takes Holds puts root ls l old new (Err untaken.Memory) = Holds root ls × Keeps old new
Takes Holds puts root ls l old new (Err untaken.Write) = AppendsPrefix false old new (puts root ls l) × (puts root ls l ≢ [])

-- what is put for further lemmas, one behind the other
abbrev pub put_for : (Position → List Lemma → Lemma → List ℕ) → Position → List Lemma → List Lemma → List ℕ
put_for puts root ls [] = []
put_for puts root ls (l ∷ more) = puts root ls l ++ put_for puts root (ls ++ l ∷ []) more

-- ---- the same of any line that was accepted

abbrev pub MayTake : (Position → List Lemma → Type 0) → Line → Position → Type 0
MayTake Holds (ALemma l) p = IsNext Holds l p
MayTake Holds ARemark p = ⊤
MayTake Holds (AVerdict v) p = ⊤

abbrev pub IsLineBehind : Position → List Lemma → Line → Position → Type 0
IsLineBehind root ls (ALemma l) p = IsBehind root ls l p
IsLineBehind root ls ARemark p = ⊤
IsLineBehind root ls (AVerdict v) p = ⊤

abbrev pub TakesLine : (Position → List Lemma → Type 0) → (Position → List Lemma → Lemma → List ℕ) → Position → List Lemma → Line
    → Option (List ℕ) → Option (List ℕ) → {X : Type 0} → Result X (RunStop ProofStop) → Type 0
TakesLine Holds puts root ls line old new (Ok x) =
    Holds root (ls ++ lemmas_in (line ∷ [])) × Appends old new (put_for puts root ls (lemmas_in (line ∷ [])))
TakesLine Holds puts root ls line old new (Err (runs.Own stop)) = (stop ≡ stops.Memory) × IsLemma line × Holds root ls × Keeps old new
TakesLine Holds puts root ls line old new (Err runs.Write) =
    AppendsPrefix false old new (put_for puts root ls (lemmas_in (line ∷ []))) × (put_for puts root ls (lemmas_in (line ∷ [])) ≢ [])
