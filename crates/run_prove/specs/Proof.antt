-- What `prove` writes: the text of a proof, whole, or a prefix of one.
use Rattle.std.specs.Prelude.{◌≡◌, ◌⊎◌, ◌<◌, ◌≤◌, ℕ, false, List, [], Option, Result, Ok, Err, length}
use Rattle.std.specs.Io.KnownBytes.{Appends}
use Rattle.device_rules.specs.Devices.{AppendsPrefix}
use Rattle.game_rules.specs.Cost.{cost}
use Rattle.game_rules.specs.Position.{Position}
use Rattle.game_rules.specs.declared.Side.TheVariants.{White}
use Rattle.game_rules.specs.Grammar.{IsGameText}
use Rattle.proof_text.specs.Right.{Shown, IsTrueVerdict}
use Rattle.proof_text.specs.Texts.{head_of, check_of, Accepted}
use Rattle.proof_text.specs.Spelling.{verdict_line}
use Rattle.proof_text.specs.Written.{HasWritten, MayStand, IsProof}
use Rattle.proof_text.specs.declared.Version.{Version}
use Rattle.proof_text.specs.declared.Verdict.{Verdict}
use Rattle.proof_text.specs.declared.Verdict.TheVariants.{Unknown}
use Rattle.run_questions.specs.Planned.{solved_within, ArePlanned}
use Rattle.io_ports.specs.declared.ports.Failed.{Failed}
use Rattle.run_questions.specs.Questions.{IsRemarkedInTurn, HasBothRemarks}
use Rattle.run_questions.specs.Remarks.{IsFrontRemark}

-- White's question has its remark, and Black's in its turn. Without a front, there are no remarks.
abbrev pub AreRemarked : {version : Version} → (slots : Option ℕ) (reach : ℕ) → (root : Position) → {head text last : List ℕ} {after : List Shown} → HasWritten version root head text after last → Type 0
AreRemarked slots reach root written = IsFrontRemark slots reach root White written.white_remark × IsRemarkedInTurn slots reach root written.mid written.black_remark written.black

-- each lemma rests on the plan that is chosen within the reach at its position, and on none where none is
abbrev pub IsPlannedText : {version : Version} → ℕ → (root : Position) → {head text last : List ℕ} {after : List Shown} → HasWritten version root head text after last → Type 0
IsPlannedText reach root written = ArePlanned reach root written.white × ArePlanned reach root written.black

-- A proof of this version, of a game's position, with this verdict: right lemmas, at most as many as the budget has nodes,
-- those of the question for White first, and on plans exactly where they are chosen. With a front, each question that was asked has its
-- remark before its lemmas. `check` accepts it, and a win, a loss or a draw is the value of the position.
pub record IsProofOf (version : Version) (nodes reach : ℕ) (slots : Option ℕ) (bytes : List ℕ) (p : Position) (text : List ℕ) (v : Verdict) : Type 0 where
  pub game : IsGameText bytes p
  pub proof : IsProof version p (head_of version game.board game.columns) text v
  pub remarked : AreRemarked slots reach p proof.written
  pub both_remarked : HasBothRemarks slots nodes reach p proof.written.mid proof.written.black_remark v
  pub planned : IsPlannedText reach p proof.written
  pub few : length proof.after ≤ nodes
  pub accepted : check_of text ≡ Accepted v (length proof.after)
  pub says : IsTrueVerdict p v

-- A text that may stand while such a proof is written: its head alone, or more. Its verdict, if it has one, stands behind both
-- remarks, as that of a whole proof does, and is unknown only where the number of nodes is below the position's cost.
pub record MayStandFor (version : Version) (nodes reach : ℕ) (slots : Option ℕ) (bytes : List ℕ) (p : Position) (text : List ℕ) : Type 0 where
  pub game : IsGameText bytes p
  pub stands : MayStand version p (head_of version game.board game.columns) text
  pub remarked : (text ≡ head_of version game.board game.columns) ⊎ AreRemarked slots reach p stands.written
  pub both_remarked : (stands.last ≡ []) ⊎ ((v : Verdict) × (stands.last ≡ verdict_line v)
      × HasBothRemarks slots nodes reach p stands.written.mid stands.written.black_remark v)
  pub planned : IsPlannedText reach p stands.written
  pub few : length stands.after ≤ nodes
  pub short : stands.last ≡ verdict_line Unknown → nodes < cost (solved_within reach) p

-- Behind the bytes that were there stands a proof with the verdict; after a failure, a prefix of what may stand.
abbrev pub Writes : Version → (nodes reach : ℕ) (slots : Option ℕ) → List ℕ → Position → Option (List ℕ) → Option (List ℕ) → Result Verdict Failed → Type 0
Writes version nodes reach slots bytes p old new (Ok v) = (text : List ℕ) × IsProofOf version nodes reach slots bytes p text v × Appends old new text
Writes version nodes reach slots bytes p old new (Err failed) = (text : List ℕ) × MayStandFor version nodes reach slots bytes p text × AppendsPrefix false old new text
