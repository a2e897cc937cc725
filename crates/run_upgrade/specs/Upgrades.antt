-- How `upgrade` ends, what it writes, and what it promises of the bytes that it took and of its sink, by its end. What is said
-- of what a sink holds is said of a sink that tells it.
use Rattle.std.specs.Prelude.{◌≡◌, ◌⊎◌, ℕ, Bool, true, false, List, [], ◌++◌, Option, Some, IfSome, Result, Ok, Err, ⊤}
use Rattle.std.specs.Io.KnownBytes.{Keeps, Appends}
use Rattle.device_rules.specs.Devices.{AppendsPrefix}
use Rattle.game_rules.specs.Game.{board_played}
use Rattle.proof_text.specs.Right.{AreRight}
use Rattle.proof_text.specs.Spelling.{lines_of, verdict_line}
use Rattle.proof_text.specs.Texts as answers
use Rattle.proof_text.specs.Texts.{head_of, check_in, IsRightText}
use Rattle.proof_text.specs.Upgrade.{upgraded, upgraded_text}
use Rattle.proof_text.specs.Written.{IsLastLine}
use Rattle.proof_text.specs.declared.Verdict.{Verdict}
use Rattle.proof_text.specs.declared.Version.TheVariants.{One, Two}
use Rattle.run_frame.specs.Ended.{EndsBy, Owes}
use Rattle.run_frame.specs.Stops.{of_result, run_stop_status, run_stop_text}
use Rattle.run_frame.specs.Streams.{Streams}
use Rattle.run_frame.specs.declared.game_input.InputStop.TheVariants.{NoGame, Read}
use Rattle.run_frame.specs.declared.run_stop.RunStop.{RunStop}
use Rattle.run_frame.specs.declared.run_stop.RunStop.TheVariants.{Own, Write}
use Rattle.run_proof.specs.Judged.{TookLines}
use Rattle.run_proof.specs.Lines.{Progress, HasLines}
use Rattle.run_proof.specs.Stops.{stop_status, stop_text, IsStopped}
use Rattle.run_proof.specs.Taken.{text_lemmas}
use Rattle.run_proof.specs.Whole.{IsRightInput}
use Rattle.run_proof.specs.declared.head.Head.{Head}
use Rattle.run_proof.specs.declared.stop.ProofStop.{ProofStop}
use Rattle.run_proof.specs.declared.stop.ProofStop.TheVariants.{Input, Refused, Memory}

-- how it ends: all was written, or something stops it
abbrev pub Upgraded : Type 0
Upgraded = Result ⊤ (RunStop ProofStop)

-- the exit status of an end, and its text for the error stream
abbrev pub upgrade_status : Upgraded → ℕ
upgrade_status = of_result (λ done. 0) (run_stop_status stop_status)

abbrev pub upgrade_text : Upgraded → List ℕ
upgrade_text = of_result (λ done. []) (run_stop_text stop_text)

-- ---- what is written

-- no line, or that of the verdict with which the bytes are accepted
abbrev pub IsToldVerdict : List ℕ → List ℕ → Type 0
IsToldVerdict bytes last = (last ≡ []) ⊎ ((v : Verdict) × (count : ℕ) × (check_in One bytes ≡ answers.Accepted v count) × (last ≡ verdict_line v))

-- While a proof is upgraded, behind the bytes that were there stands the head of its game in the second version, what
-- becomes of the lemmas before a line, all of them right and in lines that aren't refused, and then nothing more, or the verdict
-- with which the bytes are a proof that is accepted; or a prefix of that.
pub record HasWritten (whole : Bool) (bytes : List ℕ) (at : ℕ) (last : List ℕ) (old new : Option (List ℕ)) : Type 0 where
  pub head : Head
  pub read : Progress
  pub rest : List (List ℕ)
  pub lines : HasLines (Some One) head read bytes rest
  pub before : read.next ≡ at
  pub right : AreRight head.game.position [] read.lemmas read.stands.known
  pub ends : IsLastLine head.game.position read.stands.known last
  pub verdict : IsToldVerdict bytes last
  pub written : AppendsPrefix whole old new (head_of Two (board_played head.game) head.game.moves ++ (lines_of (upgraded head.game.position [] read.lemmas) ++ last))

-- The bytes are a right proof of the first version. What was written is the text that becomes of its game, of its lemmas and
-- of its verdict: a right proof of the second version with the same verdict and as many lemmas.
pub record HasUpgraded (bytes : List ℕ) (left old new : Option (List ℕ)) : Type 0 where
  pub head : Head
  pub read : Progress
  pub lines : HasLines (Some One) head read bytes []
  pub say : text_lemmas (Some One) bytes ≡ read.lemmas
  pub verdict : Verdict
  pub count : ℕ
  pub right : IsRightInput (Some One) bytes left verdict count
  pub upgrade : IsRightText Two (upgraded_text head.game.position (board_played head.game) head.game.moves read.lemmas verdict) verdict count
  pub written : Appends old new (upgraded_text head.game.position (board_played head.game) head.game.moves read.lemmas verdict)

-- What stands written where the reading of the proof was stopped: before its game was read nothing, and then the head and
-- what becomes of the lemmas that were accepted, which where a line is refused are those before that line.
abbrev pub StopsWriting : List ℕ → Option (List ℕ) → Option (List ℕ) → ProofStop → Type 0
StopsWriting bytes old new (Input (NoGame fault)) = Keeps old new
StopsWriting bytes old new (Input Read) = Keeps old new ⊎ ((at : ℕ) × HasWritten true bytes at [] old new)
StopsWriting bytes old new (Refused r) = ((r.at ≡ 1) × Keeps old new) ⊎ HasWritten true bytes r.at [] old new
StopsWriting bytes old new Memory = (at : ℕ) × HasWritten true bytes at [] old new

-- ---- the promises

-- from the bytes that it took, by its end
abbrev pub UpgradesFrom : List ℕ → Streams → Upgraded → Type 0
UpgradesFrom taken s (Ok done) = HasUpgraded taken s.left s.old s.new
UpgradesFrom taken s (Err (Own stop)) = IsStopped (Some One) taken s stop × StopsWriting taken s.old s.new stop
UpgradesFrom taken s (Err Write) = (at : ℕ) × (last : List ℕ) × HasWritten false taken at last s.old s.new

-- `upgrade`; it takes the lines of a proof at most, and behind the last of them what came with it
abbrev pub Upgrades : Streams → Upgraded → Type 0
Upgrades s end = TookLines s (λ taken. UpgradesFrom taken s end)

-- the same, as a caller of `run` sees it
abbrev pub UpgradeRuns : Streams → (status : ℕ) → (text : List ℕ) → Type 0
UpgradeRuns s status text = EndsBy upgrade_status upgrade_text (Upgrades s) status text

-- how it ends on a right proof of the first version, where no stream failed: it upgrades it, unless memory runs out
abbrev pub UpgradeCompletes : Option (List ℕ) → (status : ℕ) → Type 0
UpgradeCompletes input status =
    IfSome input (λ bytes. (v : Verdict) (count : ℕ) → check_in One bytes ≡ answers.Accepted v count → (status ≡ 0) ⊎ (status ≡ 8))

-- what it owes of a run
abbrev pub UpgradeOwes : Streams → (unread unwritten : Type 0) → Upgraded → Type 0
UpgradeOwes = Owes upgrade_status Upgrades UpgradeCompletes
