-- The two questions of a proof, one behind the other.
use mathlib.Core.Bool.{true≢false}
use Rattle.std.proofs.Common.{◌≡◌, ◌≢◌, ℕ, ◌+◌, ◌<◌, ◌≤◌, Bool, true, false, List, [], ◌++◌, Option, None, Result, Ok, Err, IfOk, length, refl, sym, ap, ◌∙◌}
use Rattle.std.proofs.Common.{subst, inl, inr, arith, append-nil, append_assoc}
use Rattle.std.specs.Result.{result_unwrap_or}
use Rattle.std.proofs.lemmas.Bool.{cases_Bool}
use Rattle.device_rules.specs.Devices.{AppendsPrefix}
use Rattle.device_rules.proofs.DeviceLaws.{AppendsPrefix_more}
use Rattle.game_rules.specs.Cost.{count, cost}
use Rattle.game_rules.specs.Position.{Position, same_side, side_to_move, other}
use Rattle.game_rules.specs.Value.{wins}
use Rattle.game_rules.proofs.Moves.{same_side_is, other_side, other_other}
use Rattle.game_rules.specs.Questions.{side_asked}
use Rattle.game_rules.specs.declared.Question.{Question}
use Rattle.game_rules.specs.declared.Side.{Side}
use Rattle.game_rules.specs.declared.Side.TheVariants.{White, Black}
use Rattle.proof_text.specs.Lemma.{claim_for, Lemma}
use Rattle.proof_text.specs.Right.{Shown, Shows, IsVerdict, IsTrueVerdict}
use Rattle.proof_text.specs.Spelling.{lines_of}
use Rattle.proof_text.specs.Written.{IsAskedInTurn, remark_line}
use Rattle.proof_text.proofs.Append.{Shows_more, AreRight_append}
use Rattle.proof_text.proofs.Sound.{AreTrue_none, true_lemmas, true_verdict}
use Rattle.proof_text.specs.declared.Verdict.{Verdict}
use Rattle.proof_text.specs.declared.Claim.TheVariants.{WhiteFails}
use Rattle.proof_text.specs.declared.Verdict.TheVariants.{Draw, Unknown}
use Rattle.deep_search.specs.Table.{Entries}
use Rattle.proof_text.specs.declared.Version.{Version}
use Rattle.deep_search.specs.Planned.{solved_within}
use Rattle.deep_search.specs.Search.{is_whole, uncounted, Moment, moment, AreBelow, limit_of, Solves}
use Rattle.deep_search.specs.Tables.{FitsTable}
use Rattle.deep_search.proofs.Below.{none_here}
use Rattle.deep_search.proofs.Tables.{fits_if_empty}
use Rattle.deep_search.proofs.Cut.{lemmas_prefix}
use Rattle.proof_text.specs.declared.Version.TheVariants.{One}
use Rattle.run_questions.specs.Found.{HasFound}
use Rattle.run_questions.specs.SizedFronts.{LeavesRemark}
use Rattle.run_questions.specs.Questions.{AsksSide, is_whole_verdict, won_by, IsRemarkedInTurn, HasBothRemarks, verdict_told, Asks}
use Rattle.deep_search.specs.declared.solving.Answer.{Answer}
use Rattle.deep_search.specs.declared.solving.SearchStop.{SearchStop}
use Rattle.deep_search.specs.declared.solving.SearchStop.TheVariants.{Spent, WriteFault}

-- a side's lemma gives the verdict for the side to move
pub won_verdict : (root : Position) (after : List Shown) (winner to_move : Side) (n : ℕ) → to_move ≡ side_to_move root
    → Shows after n root (claim_for winner true) → IsVerdict root after (won_by winner to_move n)
won_verdict root after winner to_move n turn shown = elim (cases_Bool (same_side winner to_move)) [
  | inl own ↦ rw own (subst (λ side. Shows after n root (claim_for side true)) (same_side_is winner to_move own ∙ turn) shown)
  | inr against ↦ rw against (subst (λ side. Shows after n root (claim_for side true)) (winner_is against) shown)
]
  where
    winner_is : same_side winner to_move ≡ false → winner ≡ other (side_to_move root)
    winner_is against = sym (other_other winner) ∙ ap other (sym (other_side winner to_move against) ∙ turn)

won_known : (winner to_move : Side) (n : ℕ) → won_by winner to_move n ≢ Unknown
won_known winner to_move n h = elim (cases_Bool (same_side winner to_move)) [
  | inl own ↦ cc (rw own at h)
  | inr against ↦ cc (rw against at h)
]

-- ---- texts

-- a text that stops stands as its search does
same_whole : (stop : SearchStop) → is_whole (Err stop) ≡ is_whole_verdict (Err stop)
same_whole Spent = refl
same_whole WriteFault = refl

-- the remark and the lemmas of one question alone
alone : (b : Bool) (old new : Option (List ℕ)) (remark lemmas : List ℕ) → AppendsPrefix b old new (remark ++ lemmas)
    → AppendsPrefix b old new (remark ++ (lemmas ++ []))
alone b old new remark lemmas h = subst (λ text. AppendsPrefix b old new (remark ++ text)) (sym (append-nil lemmas)) h

-- those of both
together : (b : Bool) (old held new : Option (List ℕ)) (remark lemmas also more : List ℕ) → AppendsPrefix true old held (remark ++ lemmas)
    → AppendsPrefix b held new (also ++ more)
    → AppendsPrefix b old new (remark ++ (lemmas ++ (also ++ more)))
together b old held new remark lemmas also more first second =
    subst (AppendsPrefix b old new) (append_assoc remark lemmas (also ++ more))
    (AppendsPrefix_more b old held new (remark ++ lemmas) (also ++ more) first second)

-- ---- one question

module _ (version : Version) (root : Position) (question : Question) (reach : ℕ) (slots : Option ℕ) (known : List Shown) (most : ℕ)
    (before after : Entries) (old mid new : Option (List ℕ)) (total : ℕ) where
  -- its remark, and behind it what its search wrote
  pub asks_side : (result : Result Answer SearchStop) → LeavesRemark slots reach root (side_asked question) true old mid
      → Solves root root question reach version known (moment before mid) (moment after new) total result → total + uncounted result ≤ most
      → AsksSide version root (side_asked question) reach slots known most (moment before old) (moment after new) total result
  asks_side result remarks solves few = record {
    remark = remarks.remark;
    lemmas = solves.wrote.more;
    shown = solves.wrote.shown;
    remarked = remarks.right;
    line = remarks.line;
    text = AppendsPrefix_more (is_whole result) old mid new (remark_line remarks.remark) (lines_of solves.wrote.more) remarks.text
        (lemmas_prefix (is_whole result) mid new solves.wrote.more solves.wrote.text);
    right = solves.wrote.right;
    sided = solves.wrote.sided;
    planned = solves.wrote.planned;
    few = omega (arith, solves.wrote.counted, few);
    counted = at result solves.wrote.counted;
    fits = solves.wrote.fits;
    below = solves.below;
    named = solves.named;
  }
    where
      at : (result : Result Answer SearchStop) → length (known ++ solves.wrote.shown) ≡ total + uncounted result
          → IfOk result (λ answer. length (known ++ solves.wrote.shown) ≡ total)
      at (Ok answer) counted = omega (arith, counted)
      at (Err stop) counted = tt

module _ (version : Version) (root : Position) (side : Side) (reach : ℕ) (slots : Option ℕ) (known : List Shown) (most : ℕ) (before : Entries)
    (old new : Option (List ℕ)) (total : ℕ) where
  -- its remark was cut
  pub asks_cut : LeavesRemark slots reach root side false old new → FitsTable before known → length known ≤ most
      → AsksSide version root side reach slots known most (moment before old) (moment before new) total (Err WriteFault)
  asks_cut remarks fits few = record {
    remark = remarks.remark;
    lemmas = [];
    shown = [];
    remarked = remarks.right;
    line = remarks.line;
    text = subst (AppendsPrefix false old new) (sym (append-nil (remark_line remarks.remark))) remarks.text;
    right = append-nil known;
    sided = tt;
    planned = tt;
    few = omega (arith, few, ap length (append-nil known));
    counted = tt;
    fits = subst (FitsTable before) (sym (append-nil known)) fits;
    below = tt;
    named = tt;
  }

-- ---- which questions have remarks

module _ (root : Position) (nodes reach : ℕ) (slots : Option ℕ) where
  -- White's question was spent, so the budget doesn't suffice for it
  unasked : (stop : SearchStop) (mid : List Shown) (remark : Option (List ℕ)) → AreBelow (limit_of root (Err stop)) mid
      → (stop ≡ Spent → nodes < count (solved_within reach) White root) → is_whole_verdict (Err stop) ≡ true
      → HasBothRemarks slots nodes reach root mid remark (verdict_told (Err stop))
  unasked Spent mid remark below short whole fails (inl known) = absurd (known refl)
  unasked Spent mid remark below short whole fails (inr (inl (n, shown))) = absurd (none_here root WhiteFails mid n below shown)
  unasked Spent mid remark below short whole fails (inr (inr within)) = absurd (omega (arith, short refl, within))
  unasked WriteFault mid remark below short whole fails known = absurd (true≢false (sym whole))

  -- White wins, so Black isn't asked about
  unneeded : (mid : List Shown) (remark : Option (List ℕ)) (v : Verdict) → wins White root ≡ true → HasBothRemarks slots nodes reach root mid remark v
  unneeded mid remark v won fails known = absurd (true≢false (sym won ∙ fails))

-- lemmas of Black's question come in its turn
pub in_turn : (slots : Option ℕ) (reach : ℕ) (root : Position) (mid : List Shown) (remark : Option (List ℕ)) (lemmas : List Lemma)
    → IsRemarkedInTurn slots reach root mid remark lemmas → IsAskedInTurn root mid lemmas
in_turn slots reach root mid remark lemmas (inl asked) some = (asked.1, asked.2)
in_turn slots reach root mid remark lemmas (inr none) some = absurd (some none.1)

-- ---- both questions

module _ (version : Version) (root : Position) (nodes reach : ℕ) (slots : Option ℕ) (before after : Entries) (old new : Option (List ℕ)) (total most : ℕ)
    (within : most ≤ nodes) where
  -- White's question alone was asked
  one_asked : (asked : Result Answer SearchStop) (r : Result Verdict SearchStop)
      → (white : AsksSide version root White reach slots [] most (moment before old) (moment after new) total asked) → is_whole asked ≡ is_whole_verdict r
      → (is_whole_verdict r ≡ true → HasBothRemarks slots nodes reach root white.shown None (verdict_told r))
      → IfOk r (λ v. IsVerdict root white.shown v × (v ≢ Unknown)) → Asks version root nodes reach slots old new r
  one_asked asked r white whole remarked verdict = record {
    white_remark = white.remark;
    white = white.lemmas;
    mid = white.shown;
    black_remark = None;
    black = [];
    after = white.shown;
    text = subst (λ b. AppendsPrefix b old new (remark_line white.remark ++ (lines_of white.lemmas ++ []))) whole
        (alone (is_whole asked) old new (remark_line white.remark) (lines_of white.lemmas) white.text);
    white_remarked = white.remarked;
    white_line = white.line;
    black_remarked = inr (refl, refl);
    black_line = tt;
    both_remarked = remarked;
    white_right = white.right;
    black_right = refl;
    white_sided = white.sided;
    black_sided = tt;
    white_planned = white.planned;
    black_planned = tt;
    verdict = verdict;
    few = omega (arith, white.few, within);
  }

  -- the first question stopped
  pub asks_none : (stop : SearchStop) → AsksSide version root White reach slots [] most (moment before old) (moment after new) total (Err stop)
      → (stop ≡ Spent → nodes < count (solved_within reach) White root)
      → Asks version root nodes reach slots old new (Err stop)
  asks_none stop white short =
      one_asked (Err stop) (Err stop) white (same_whole stop) (unasked root nodes reach slots stop white.shown None white.below short) tt

  -- White wins
  pub asks_white : (answer : Answer) (to_move : Side) (v : Verdict)
      → AsksSide version root White reach slots [] most (moment before old) (moment after new) total (Ok answer) → answer.yes ≡ true
      → to_move ≡ side_to_move root
      → wins White root ≡ true → v ≡ won_by White to_move answer.lemma → Asks version root nodes reach slots old new (Ok v)
  asks_white answer to_move v white won turn wins_root told =
      one_asked (Ok answer) (Ok v) white refl (λ _. unneeded root nodes reach slots white.shown None v wins_root) (
        rw told (won_verdict root white.shown White to_move answer.lemma turn
            (subst (λ b. Shows white.shown answer.lemma root (claim_for White b)) won white.named)),
        (λ h. won_known White to_move answer.lemma (sym told ∙ h)),
      )

module _ (version : Version) (root : Position) (nodes reach : ℕ) (slots : Option ℕ) (before mid after : Entries) (old held new : Option (List ℕ))
    (total : ℕ) (first : Answer)
    (begun : ℕ) (white : AsksSide version root White reach slots [] begun (moment before old) (moment mid held) total (Ok first)) (none : first.yes ≡ false)
    (most counted : ℕ) (within : most ≤ nodes) where
  white_fails : Shows white.shown first.lemma root (claim_for White false)
  white_fails = subst (λ b. Shows white.shown first.lemma root (claim_for White b)) none white.named

  -- both questions were asked
  two_asked : (asked : Result Answer SearchStop) (r : Result Verdict SearchStop)
      → (black : AsksSide version root Black reach slots white.shown most (moment mid held) (moment after new) counted asked)
      → is_whole asked ≡ is_whole_verdict r → IfOk r (λ v. IsVerdict root (white.shown ++ black.shown) v × (v ≢ Unknown))
      → Asks version root nodes reach slots old new r
  two_asked asked r black whole verdict = record {
    white_remark = white.remark;
    white = white.lemmas;
    mid = white.shown;
    black_remark = black.remark;
    black = black.lemmas;
    after = (white.shown ++ black.shown);
    text = subst (λ b. AppendsPrefix b old new
        (remark_line white.remark ++ (lines_of white.lemmas ++ (remark_line black.remark ++ lines_of black.lemmas)))) whole
        (together (is_whole asked) old held new (remark_line white.remark) (lines_of white.lemmas) (remark_line black.remark) (lines_of black.lemmas)
        white.text black.text);
    white_remarked = white.remarked;
    white_line = white.line;
    black_remarked = inl (black.remarked, first.lemma, white_fails);
    black_line = black.line;
    both_remarked = λ _ _ _. black.remarked;
    white_right = white.right;
    black_right = black.right;
    white_sided = white.sided;
    black_sided = black.sided;
    white_planned = white.planned;
    black_planned = black.planned;
    verdict = verdict;
    few = omega (arith, black.few, within);
  }

  -- the second question stopped
  pub asks_one : (stop : SearchStop) → AsksSide version root Black reach slots white.shown most (moment mid held) (moment after new) counted (Err stop)
      → Asks version root nodes reach slots old new (Err stop)
  asks_one stop black = two_asked (Err stop) (Err stop) black (same_whole stop) tt

  module _ (second : Answer) (black : AsksSide version root Black reach slots white.shown most (moment mid held) (moment after new) counted (Ok second)) where
    -- Black wins
    pub asks_black : (to_move : Side) (v : Verdict) → second.yes ≡ true → to_move ≡ side_to_move root → v ≡ won_by Black to_move second.lemma
        → Asks version root nodes reach slots old new (Ok v)
    asks_black to_move v won turn told = two_asked (Ok second) (Ok v) black refl (
      rw told (won_verdict root (white.shown ++ black.shown) Black to_move second.lemma turn
          (subst (λ b. Shows (white.shown ++ black.shown) second.lemma root (claim_for Black b)) won black.named)),
      (λ h. won_known Black to_move second.lemma (sym told ∙ h)),
    )

    -- neither wins
    pub asks_draw : second.yes ≡ false → Asks version root nodes reach slots old new (Ok (Draw first.lemma second.lemma))
    asks_draw never =
        two_asked (Ok second) (Ok (Draw first.lemma second.lemma)) black refl (
          (
            Shows_more white.shown black.shown first.lemma root (claim_for White false) white_fails,
            subst (λ b. Shows (white.shown ++ black.shown) second.lemma root (claim_for Black b)) never black.named,
          ),
          (λ h. cc),
        )

-- a verdict that the lemmas of both questions show is true
pub asked_truth : (version : Version) (root : Position) (nodes reach : ℕ) (slots : Option ℕ) (old new : Option (List ℕ)) (r : Result Verdict SearchStop)
    (asks : Asks version root nodes reach slots old new r) (v : Verdict)
    → IsVerdict root asks.after v → IsTrueVerdict root v
asked_truth version root nodes reach slots old new r asks v right =
    true_verdict root asks.after v
    (true_lemmas root [] (asks.white ++ asks.black) asks.after
    (AreRight_append root [] asks.mid asks.after asks.white asks.black asks.white_right asks.black_right) AreTrue_none) right

pub same_stop : {A : Type 0} (r : Result A SearchStop) (stop other : SearchStop) → r ≡ Err stop → r ≡ Err other → stop ≡ other
same_stop r stop other h k = cc

-- ---- where the questions are put

-- White's question begins with nothing known, over a table without entries
pub asked_first : (version : Version) (p : Position) (reach : ℕ) (slots : Option ℕ) (count nodes total : ℕ) (table : Entries) (bytes : Option (List ℕ))
    (new : Moment)
    (asked read : Result Answer SearchStop) → count ≡ 0 → table.entries ≡ [] → asked ≡ read
    → ((known : List Shown) → length known ≡ count → FitsTable table known
    → AsksSide version p White reach slots known (count + nodes) (moment table bytes) new total asked)
    → AsksSide version p White reach slots [] (count + nodes) (moment table bytes) new total read
asked_first version p reach slots count nodes total table bytes new asked read none empty same asks =
    subst (AsksSide version p White reach slots [] (count + nodes) (moment table bytes) new total) same (asks [] (sym none) (fits_if_empty table [] empty))

-- what was asked of a position was asked of the same one, with the same result
pub asked_of : (version : Version) (p q : Position) (nodes reach : ℕ) (slots : Option ℕ) (old new : Option (List ℕ))
    (asked read : Result Verdict SearchStop) → p ≡ q → asked ≡ read
    → Asks version p nodes reach slots old new asked → Asks version q nodes reach slots old new read
asked_of version p q nodes reach slots old new asked read here same asks = rw (sym here, sym same) asks

-- ---- the value alone

-- what both questions answer is true of their position, and nothing is known of it only where the budget was spent
pub told_true : (version : Version) (p : Position) (nodes reach : ℕ) (old new : Option (List ℕ)) (asked : Result Verdict SearchStop)
    → Asks version p nodes reach None old new asked
    → IsTrueVerdict p (result_unwrap_or asked Unknown)
told_true version p nodes reach old new (Ok v) asks = asked_truth version p nodes reach None old new (Ok v) asks v asks.verdict.0
told_true version p nodes reach old new (Err stop) asks = tt

pub told_unknown : (version : Version) (p : Position) (nodes reach : ℕ) (old new : Option (List ℕ)) (asked : Result Verdict SearchStop)
    → Asks version p nodes reach None old new asked
    → (asked ≡ Err Spent → nodes < cost (solved_within reach) p) → (asked ≡ Err WriteFault → ⊥)
    → result_unwrap_or asked Unknown ≡ Unknown → nodes < cost (solved_within reach) p
told_unknown version p nodes reach old new (Ok v) asks short never unknown = absurd (asks.verdict.1 unknown)
told_unknown version p nodes reach old new (Err Spent) asks short never unknown = short refl
told_unknown version p nodes reach old new (Err WriteFault) asks short never unknown = absurd (never refl)

-- and a value that they tell was found within the budget
pub told_found : (p : Position) (nodes reach : ℕ) (old new : Option (List ℕ)) (asked : Result Verdict SearchStop) → Asks One p nodes reach None old new asked
    → result_unwrap_or asked Unknown ≢ Unknown → HasFound nodes reach p (result_unwrap_or asked Unknown)
told_found p nodes reach old new (Err stop) asks known = absurd (known refl)
told_found p nodes reach old new (Ok v) asks known = record {
  white = asks.white;
  mid = asks.mid;
  black = asks.black;
  after = asks.after;
  white_right = asks.white_right;
  black_right = asks.black_right;
  white_sided = asks.white_sided;
  black_sided = asks.black_sided;
  white_planned = asks.white_planned;
  black_planned = asks.black_planned;
  verdict = asks.verdict.0;
  known = asks.verdict.1;
  few = asks.few;
}
