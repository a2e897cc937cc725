-- What the two questions of a proof write, and the verdict that they show.
use Rattle.std.specs.Prelude.{◌≡◌, ◌≢◌, ◌⊎◌, ◌≤◌, ℕ, if◌then◌else◌, Bool, true, false, List, [], ◌++◌, Option, None, Result, Ok, Err, IfOk, length}
use Rattle.device_rules.specs.Devices.{AppendsPrefix}
use Rattle.game_rules.specs.Cost.{count}
use Rattle.game_rules.specs.Position.{Position, same_side}
use Rattle.game_rules.specs.Value.{wins}
use Rattle.game_rules.specs.declared.Side.{Side}
use Rattle.game_rules.specs.declared.Side.TheVariants.{White, Black}
use Rattle.proof_text.specs.Lemma.{claim_for, Lemma}
use Rattle.proof_text.specs.Right.{Shown, Shows, AreRight, IsVerdict}
use Rattle.proof_text.specs.Spelling.{lines_of}
use Rattle.proof_text.specs.Written.{AreSided, IsRemarkLine, remark_line}
use Rattle.proof_text.specs.declared.Claim.TheVariants.{WhiteFails}
use Rattle.proof_text.specs.declared.Version.{Version}
use Rattle.proof_text.specs.declared.Verdict.{Verdict}
use Rattle.proof_text.specs.declared.Verdict.TheVariants.{Win, Loss, Unknown}
use Rattle.deep_search.specs.Planned.{solved_within, ArePlanned}
use Rattle.deep_search.specs.Search.{is_whole, Moment, AreBelow, limit_of}
use Rattle.deep_search.specs.Tables.{FitsTable}
use Rattle.deep_search.specs.declared.solving.Answer.{Answer}
use Rattle.deep_search.specs.declared.solving.SearchStop.{SearchStop}
use Rattle.deep_search.specs.declared.solving.SearchStop.TheVariants.{Spent, WriteFault}
use Rattle.run_questions.specs.Remarks.{IsFrontRemark}

-- ---- one question

-- What a question wrote behind what is known: its remark, and then right lemmas of the side, each on the plan that is
-- chosen within the reach where one is. The entries of the table name lemmas among them and those that are known, which
-- are at most so many. The answer names one that shows at the root whether the side wins; where the question is spent, no
-- lemma of it stands at the root.
pub record AsksSide (version : Version) (root : Position) (side : Side) (reach : ℕ) (slots : Option ℕ) (known : List Shown) (most : ℕ) (old new : Moment) (total : ℕ) (result : Result Answer SearchStop) : Type 0 where
  pub remark : Option (List ℕ)
  pub lemmas : List Lemma
  pub shown : List Shown
  pub remarked : IsFrontRemark slots reach root side remark
  pub line : IsRemarkLine remark
  pub text : AppendsPrefix (is_whole result) old.bytes new.bytes (remark_line remark ++ lines_of lemmas)
  pub right : AreRight root known lemmas (known ++ shown)
  pub sided : AreSided version side lemmas
  pub planned : ArePlanned reach root lemmas
  pub few : length (known ++ shown) ≤ most
  pub counted : IfOk result (λ answer. length (known ++ shown) ≡ total)
  pub fits : FitsTable new.table (known ++ shown)
  pub below : AreBelow (limit_of root result) shown
  pub named : IfOk result (λ answer. Shows (known ++ shown) answer.lemma root (claim_for side answer.yes))

-- White's question was asked, and this lemma shows that White doesn't win.
pub record AnswersNo (version : Version) (root : Position) (reach : ℕ) (slots : Option ℕ) (lemma : ℕ) (old new : Moment) (total : ℕ) : Type 0 where
  pub most : ℕ
  pub answer : Answer
  pub is_lemma : answer.lemma ≡ lemma
  pub is_no : answer.yes ≡ false
  pub asked : AsksSide version root White reach slots [] most old new total (Ok answer)

-- ---- both

-- whether all that was begun for a verdict stands whole
abbrev pub is_whole_verdict : Result Verdict SearchStop → Bool
is_whole_verdict (Ok v) = true
is_whole_verdict (Err Spent) = true
is_whole_verdict (Err WriteFault) = false

-- the verdict for the side to move where a side wins by a lemma
abbrev pub won_by : Side → Side → ℕ → Verdict
won_by winner to_move lemma = if same_side winner to_move then Win lemma else Loss lemma

-- Black's question has its remark, and it is shown at the root that White doesn't win; or it was not asked, and has
-- neither a remark nor lemmas.
abbrev pub IsRemarkedInTurn : Option ℕ → ℕ → Position → List Shown → Option (List ℕ) → List Lemma → Type 0
IsRemarkedInTurn slots reach root mid remark lemmas =
    (IsFrontRemark slots reach root Black remark × (n : ℕ) × Shows mid n root WhiteFails) ⊎ ((remark ≡ None) × (lemmas ≡ []))

-- Where White doesn't win, Black's question has its remark as soon as one of these holds: something is known of the value,
-- White's lemmas show at the root that White doesn't win, or the budget suffices for White's question.
abbrev pub HasBothRemarks : (slots : Option ℕ) (nodes reach : ℕ) → Position → List Shown → Option (List ℕ) → Verdict → Type 0
HasBothRemarks slots nodes reach root mid remark v =
    wins White root ≡ false → (v ≢ Unknown) ⊎ (((n : ℕ) × Shows mid n root WhiteFails) ⊎ (count (solved_within reach) White root ≤ nodes))
    → IsFrontRemark slots reach root Black remark

-- the verdict that a proof gets, which is unknown where a question stopped
abbrev pub verdict_told : Result Verdict SearchStop → Verdict
verdict_told (Ok v) = v
verdict_told (Err stop) = Unknown

-- What both questions wrote behind the head of a proof: for each its remark and right lemmas, White's first, each on the
-- plan that is chosen within the reach where one is; and the verdict that they show.
pub record Asks (version : Version) (root : Position) (nodes reach : ℕ) (slots : Option ℕ) (old new : Option (List ℕ)) (result : Result Verdict SearchStop) : Type 0 where
  pub white_remark : Option (List ℕ)
  pub white : List Lemma
  pub mid : List Shown
  pub black_remark : Option (List ℕ)
  pub black : List Lemma
  pub after : List Shown
  pub text : AppendsPrefix (is_whole_verdict result) old new (remark_line white_remark ++ (lines_of white ++ (remark_line black_remark ++ lines_of black)))
  pub white_remarked : IsFrontRemark slots reach root White white_remark
  pub white_line : IsRemarkLine white_remark
  pub black_remarked : IsRemarkedInTurn slots reach root mid black_remark black
  pub black_line : IsRemarkLine black_remark
  pub both_remarked : is_whole_verdict result ≡ true → HasBothRemarks slots nodes reach root mid black_remark (verdict_told result)
  pub white_right : AreRight root [] white mid
  pub black_right : AreRight root mid black after
  pub white_sided : AreSided version White white
  pub black_sided : AreSided version Black black
  pub white_planned : ArePlanned reach root white
  pub black_planned : ArePlanned reach root black
  pub verdict : IfOk result (λ v. IsVerdict root after v × (v ≢ Unknown))
  pub few : length after ≤ nodes
