-- Which lemmas of a proof its verdict rests on, and the text that has these alone.
use Rattle.std.specs.Prelude.{◌≡◌, ◌<◌, ◌≤◌, ℕ, zero, suc, ◌+◌, Bool, true, false, ◌==◌, if◌then◌else◌, List, [], ◌∷◌, ◌++◌, map, Contains, ⊤}
use Rattle.std.specs.List.{AllByRecursion, list_any}
use Rattle.proof_text.specs.Lemma.{Cite, Reason, ByEnd, ByOne, ByAll, ByPlan, ByMirror, Lemma}
use Rattle.proof_text.specs.Spelling.{lines_of, verdict_line}
use Rattle.proof_text.specs.Texts.{lemmas_among, head_of, IsRightText}
use Rattle.proof_text.specs.declared.Verdict.{Verdict}
use Rattle.proof_text.specs.declared.Verdict.TheVariants.{Win, Loss, Draw, Unknown}
use Rattle.proof_text.specs.declared.Version.{Version}

-- the numbers of the lemmas that a reason cites, and of those that a verdict names
abbrev pub numbers_cited : Reason → List ℕ
numbers_cited ByEnd = []
numbers_cited (ByOne cite) = cite.lemma ∷ []
numbers_cited (ByAll cites) = map (λ cite. cite.lemma) cites
numbers_cited (ByPlan ws) = []
numbers_cited (ByMirror n) = n ∷ []

abbrev pub numbers_named : Verdict → List ℕ
numbers_named (Win n) = n ∷ []
numbers_named (Loss n) = n ∷ []
numbers_named (Draw n m) = n ∷ m ∷ []
numbers_named Unknown = []

-- A lemma is reached where the verdict names it, or a lemma that is reached cites it.
pub data IsReached (ls : List Lemma) (v : Verdict) : ℕ → Type 0 where
  Named : (n : ℕ) → Contains (numbers_named v) n → IsReached ls v n
  Cited : (l : Lemma) (n : ℕ) → Contains ls l → IsReached ls v l.number → Contains (numbers_cited l.reason) n → IsReached ls v n

-- Lemmas are numbered one by one from a number on, and each cites numbers of earlier ones alone, which begin with 1.
abbrev pub IsEarlier : ℕ → ℕ → Type 0
IsEarlier number n = (1 ≤ n) × (n < number)

abbrev pub CitesEarlier : ℕ → List Lemma → Type 0
CitesEarlier first [] = ⊤
CitesEarlier first (l ∷ ls) = (l.number ≡ first) × AllByRecursion (IsEarlier first) (numbers_cited l.reason) × CitesEarlier (first + 1) ls

-- ---- the test, from the last lemma back

abbrev pub has_number : List ℕ → ℕ → Bool
has_number ns n = list_any (λ m. m == n) ns

-- what is wanted with one lemma more, which stands before those that were looked at
abbrev pub with_cites : List ℕ → Lemma → List ℕ
with_cites wanted l = if has_number wanted l.number then numbers_cited l.reason ++ wanted else wanted

abbrev pub wanted_by : Verdict → List Lemma → List ℕ
wanted_by v [] = numbers_named v
wanted_by v (l ∷ ls) = with_cites (wanted_by v ls) l

abbrev pub is_reached : List Lemma → Verdict → ℕ → Bool
is_reached ls v n = has_number (wanted_by v ls) n

-- ---- what is left of a proof of which the lemmas with some numbers are kept

-- how many of the numbers from 1 to n are kept: the new number of n, where it is kept itself
abbrev pub rank : (ℕ → Bool) → ℕ → ℕ
rank keep zero = 0
rank keep (suc n) = if keep (suc n) then rank keep n + 1 else rank keep n

abbrev pub renumbered_cite : (ℕ → ℕ) → Cite → Cite
renumbered_cite number cite = record cite { lemma = number cite.lemma }

abbrev pub renumbered_reason : (ℕ → ℕ) → Reason → Reason
renumbered_reason number ByEnd = ByEnd
renumbered_reason number (ByOne cite) = ByOne (renumbered_cite number cite)
renumbered_reason number (ByAll cites) = ByAll (map (renumbered_cite number) cites)
renumbered_reason number (ByPlan ws) = ByPlan ws
renumbered_reason number (ByMirror n) = ByMirror (number n)

abbrev pub renumbered : (ℕ → ℕ) → Lemma → Lemma
renumbered number l = record l { number = number l.number; reason = renumbered_reason number l.reason }

abbrev pub renumbered_verdict : (ℕ → ℕ) → Verdict → Verdict
renumbered_verdict number (Win n) = Win (number n)
renumbered_verdict number (Loss n) = Loss (number n)
renumbered_verdict number (Draw n m) = Draw (number n) (number m)
renumbered_verdict number Unknown = Unknown

abbrev pub kept_first : Bool → Lemma → List Lemma → List Lemma
kept_first true l ls = l ∷ ls
kept_first false l ls = ls

abbrev pub kept_lemmas : (ℕ → Bool) → List Lemma → List Lemma
kept_lemmas keep [] = []
kept_lemmas keep (l ∷ ls) = kept_first (keep l.number) (renumbered (rank keep) l) (kept_lemmas keep ls)

-- ---- the trimmed proof

-- the lemmas that are reached, in their order, numbered anew, and the verdict that names them so
abbrev pub trimmed : List Lemma → Verdict → List Lemma
trimmed ls v = kept_lemmas (is_reached ls v) ls

abbrev pub trimmed_verdict : List Lemma → Verdict → Verdict
trimmed_verdict ls v = renumbered_verdict (rank (is_reached ls v)) v

-- what is written of them
abbrev pub trimmed_lines : List Lemma → Verdict → List ℕ
trimmed_lines ls v = lines_of (trimmed ls v) ++ verdict_line (trimmed_verdict ls v)

-- A text of a right one: the same head, and behind it the trimmed lemmas and verdict. No remark is left.
pub record IsTrimmedText (version : Version) (bytes written : List ℕ) (v : Verdict) (count : ℕ) : Type 0 where
  pub text : IsRightText version bytes v count
  pub spelled : written ≡ head_of version text.board text.columns ++ trimmed_lines (lemmas_among text.entries) v
