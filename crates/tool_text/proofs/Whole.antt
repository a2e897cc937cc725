-- A whole text of which the lemmas that are reached are kept is right, and each of its lemmas is reached.
use Rattle.std.proofs.Common.{◌≡◌, ℕ, zero, suc, ◌≤◌, Bool, true, false, List, [], ◌∷◌, ◌++◌, length, map, refl, sym, ap, ◌∙◌, subst}
use Rattle.std.proofs.Common.{inl, inr, arith}
use Rattle.std.specs.List.{AllByRecursion, Contains}
use Rattle.std.proofs.lemmas.Bool.{cases_Bool}
use Rattle.std.proofs.lemmas.List.{length-map}
use Rattle.game_rules.specs.Board.{Board}
use Rattle.game_rules.proofs.Lists.{Among, Among-map}
use Rattle.proof_text.specs.Lemma.{Cite, Reason, ByEnd, ByOne, ByAll, ByPlan, ByMirror, Lemma, has_reason}
use Rattle.proof_text.specs.Right.{AreRight}
use Rattle.proof_text.specs.Spelling.{verdict_line, CiteFits, ReasonFits, IsNumber, Fits, VerdictFits}
use Rattle.proof_text.specs.Texts.{Entry, LemmaEntry, RemarkEntry, lemmas_among, EntryFits, head_of, IsRightText}
use Rattle.proof_text.specs.declared.Verdict.{Verdict}
use Rattle.proof_text.specs.declared.Verdict.TheVariants.{Win, Loss, Draw, Unknown}
use Rattle.proof_text.specs.declared.Version.{Version}
use Rattle.proof_text.proofs.Written.{lemmas_map, entries_map}
use Rattle.tool_text.specs.Trim.{numbers_cited, numbers_named, IsReached, Named, Cited, CitesEarlier, is_reached, rank, renumbered_cite, renumbered_reason}
use Rattle.tool_text.specs.Trim.{renumbered, renumbered_verdict, kept_first, kept_lemmas, trimmed, trimmed_verdict, IsTrimmedText}
use Rattle.tool_text.proofs.Keeping.{IsClosed, keeps_none, kept_right, verdict_kept}
use Rattle.tool_text.proofs.Reaching.{among_contained, contained_among, right_ordered, reached_is, reached_closed, named_reached}

-- ---- new numbers

pub rank_most : (keep : ℕ → Bool) (n : ℕ) → rank keep n ≤ n
rank_most keep zero = omega arith
rank_most keep (suc n) = elim (cases_Bool (keep (suc n))) [
  | inl here ↦ rw here (omega (arith, rank_most keep n))
  | inr not ↦ rw not (omega (arith, rank_most keep n))
]

pub rank_least : (keep : ℕ → Bool) (n : ℕ) → 1 ≤ n → keep n ≡ true → 1 ≤ rank keep n
rank_least keep zero least here = absurd (omega (arith, least))
rank_least keep (suc n) least here = rw here (omega arith)

module _ (keep : ℕ → Bool) (board : Board) where
  number_kept : (n : ℕ) → keep n ≡ true → IsNumber n → IsNumber (rank keep n)
  number_kept n here number = (rank_least keep n number.0 here, omega (arith, rank_most keep n, number.1))

  cites_fit : (cites : List Cite) → AllByRecursion (λ n. keep n ≡ true) (map (λ cite. cite.lemma) cites) → AllByRecursion (CiteFits board.cols) cites
      → AllByRecursion (CiteFits board.cols) (map (renumbered_cite (rank keep)) cites)
  cites_fit [] here fit = tt
  cites_fit (cite ∷ cites) here fit = ((fit.0.0, number_kept cite.lemma here.0 fit.0.1), cites_fit cites here.1 fit.1)

  reason_fits : (reason : Reason) → AllByRecursion (λ n. keep n ≡ true) (numbers_cited reason) → ReasonFits board reason
      → ReasonFits board (renumbered_reason (rank keep) reason)
  reason_fits ByEnd here fit = tt
  reason_fits (ByOne cite) here fit = (fit.0, number_kept cite.lemma here.0 fit.1)
  reason_fits (ByAll cites) here fit =
      let same = length-map cites (renumbered_cite (rank keep)) in (omega (arith, same, fit.0), omega (arith, same, fit.1), cites_fit cites here fit.2)
  reason_fits (ByPlan ws) here fit = fit
  reason_fits (ByMirror n) here fit = number_kept n here.0 fit

  verdict_fits : (v : Verdict) → AllByRecursion (λ n. keep n ≡ true) (numbers_named v) → VerdictFits v → VerdictFits (renumbered_verdict (rank keep) v)
  verdict_fits (Win n) here fit = number_kept n here.0 fit
  verdict_fits (Loss n) here fit = number_kept n here.0 fit
  verdict_fits (Draw n m) here fit = (number_kept n here.0 fit.0, number_kept m here.1.0 fit.1)
  verdict_fits Unknown here fit = tt

  lemma_fits : (l : Lemma) → keep l.number ≡ true → AllByRecursion (λ n. keep n ≡ true) (numbers_cited l.reason) → Fits board l
      → Fits board (renumbered (rank keep) l)
  lemma_fits l here cited fit =
      record { number = number_kept l.number here fit.number; short = fit.short; columns = fit.columns; reason = reason_fits l.reason cited fit.reason }

-- numbers don't change the kind of a reason
same_kind : (version : Version) (number : ℕ → ℕ) (reason : Reason) → has_reason version (renumbered_reason number reason) ≡ has_reason version reason
same_kind version number ByEnd = refl
same_kind version number (ByOne cite) = refl
same_kind version number (ByAll cites) = refl
same_kind version number (ByPlan ws) = refl
same_kind version number (ByMirror n) = refl

-- ---- lemmas of a text

-- what an entry that is a lemma is
abbrev MayBe : Version → Board → Lemma → Type 0
MayBe version board l = (has_reason version l.reason ≡ true) × Fits board l

lemmas_fit : (version : Version) (board : Board) (entries : List Entry) → AllByRecursion (EntryFits version board) entries
    → AllByRecursion (MayBe version board) (lemmas_among entries)
lemmas_fit version board [] fit = tt
lemmas_fit version board (LemmaEntry l ∷ entries) fit = (fit.0, lemmas_fit version board entries fit.1)
lemmas_fit version board (RemarkEntry bytes ∷ entries) fit = lemmas_fit version board entries fit.1

fewer_lemmas : (entries : List Entry) → length (lemmas_among entries) ≤ length entries
fewer_lemmas [] = omega arith
fewer_lemmas (LemmaEntry l ∷ entries) = omega (arith, fewer_lemmas entries)
fewer_lemmas (RemarkEntry bytes ∷ entries) = omega (arith, fewer_lemmas entries)

fewer_kept : (keep : ℕ → Bool) (ls : List Lemma) → length (kept_lemmas keep ls) ≤ length ls
fewer_kept keep [] = omega arith
fewer_kept keep (l ∷ ls) = of (keep l.number) (fewer_kept keep ls)
  where
    of : (b : Bool) → length (kept_lemmas keep ls) ≤ length ls
        → length (kept_first b (renumbered (rank keep) l) (kept_lemmas keep ls)) ≤ length (l ∷ ls)
    of true fewer = omega (arith, fewer)
    of false fewer = omega (arith, fewer)

kept_fit : (version : Version) (board : Board) (keep : ℕ → Bool) (ls : List Lemma) → IsClosed keep ls → AllByRecursion (MayBe version board) ls
    → AllByRecursion (EntryFits version board) (map LemmaEntry (kept_lemmas keep ls))
kept_fit version board keep [] closed fit = tt
kept_fit version board keep (l ∷ ls) closed fit = of (keep l.number) refl (kept_fit version board keep ls closed.1 fit.1)
  where
    of : (b : Bool) → keep l.number ≡ b → AllByRecursion (EntryFits version board) (map LemmaEntry (kept_lemmas keep ls))
        → AllByRecursion (EntryFits version board) (map LemmaEntry (kept_first b (renumbered (rank keep) l) (kept_lemmas keep ls)))
    of true here later =
        ((same_kind version (rank keep) l.reason ∙ fit.0.0, lemma_fits keep board l here (closed.0 here) fit.0.1), later)
    of false not later = later

-- ---- the trimmed text

pub trimmed_right : (version : Version) (bytes written : List ℕ) (v : Verdict) (count : ℕ) (trim : IsTrimmedText version bytes written v count)
    → IsRightText version written (trimmed_verdict (lemmas_among trim.text.entries) v) (length (trimmed (lemmas_among trim.text.entries) v))
trimmed_right version bytes written v count trim =
    let text = trim.text in
    let ls = lemmas_among text.entries in
    let keep = is_reached ls v in
    let closed = reached_closed v 1 ls (right_ordered text.root [] ls text.after text.right) in
    let right = kept_right keep text.root [] [] ls text.after closed (keeps_none keep) text.right in
    let left = kept_lemmas keep ls in
    record {
      board = text.board;
      columns = text.columns;
      root = text.root;
      entries = map LemmaEntry left;
      after = right.0;
      ended = true;
      has_board = text.has_board;
      has_moves = text.has_moves;
      fit = kept_fit version text.board keep ls closed (lemmas_fit version text.board text.entries text.fit);
      right = subst (λ ls. AreRight text.root [] ls right.0) (sym (lemmas_map left)) right.1;
      verdict_fits = verdict_fits keep text.board v (named_reached v ls) text.verdict_fits;
      verdict_right = verdict_kept keep text.root text.after right.0 v right.2 (named_reached v ls) text.verdict_right;
      counted = sym (ap length (lemmas_map left));
      few = omega (arith, length-map left LemmaEntry, fewer_kept keep ls, fewer_lemmas text.entries, text.few);
      spelled =
          trim.spelled
          ∙ ap (λ lines. head_of version text.board text.columns ++ (lines ++ verdict_line (trimmed_verdict ls v))) (sym (entries_map left));
    }

-- ---- each of its lemmas is reached

named_anew : (number : ℕ → ℕ) (v : Verdict) → numbers_named (renumbered_verdict number v) ≡ map number (numbers_named v)
named_anew number (Win n) = refl
named_anew number (Loss n) = refl
named_anew number (Draw n m) = refl
named_anew number Unknown = refl

cites_anew : (number : ℕ → ℕ) (cites : List Cite)
    → map (λ cite. cite.lemma) (map (renumbered_cite number) cites) ≡ map number (map (λ cite. cite.lemma) cites)
cites_anew number [] = refl
cites_anew number (cite ∷ cites) = ap (λ ns. number cite.lemma ∷ ns) (cites_anew number cites)

cited_anew : (number : ℕ → ℕ) (reason : Reason) → numbers_cited (renumbered_reason number reason) ≡ map number (numbers_cited reason)
cited_anew number ByEnd = refl
cited_anew number (ByOne cite) = refl
cited_anew number (ByAll cites) = cites_anew number cites
cited_anew number (ByPlan ws) = refl
cited_anew number (ByMirror n) = refl

-- a number of one list, anew, is one of the other
number_anew : (number : ℕ → ℕ) (ns ms : List ℕ) (n : ℕ) → ms ≡ map number ns → Contains ns n → Contains ms (number n)
number_anew number ns ms n same has = contained_among ms (number n) (subst (Among (number n)) (sym same) (Among-map number ns n (among_contained ns n has)))

kept_from : (keep : ℕ → Bool) (ls : List Lemma) (l : Lemma) → Among l ls → keep l.number ≡ true → Among (renumbered (rank keep) l) (kept_lemmas keep ls)
kept_from keep [] l among here = absurd among
kept_from keep (m ∷ ls) l (inl same) here =
    rw (ap (λ (l : Lemma). keep l.number) same ∙ here) (inl (ap (renumbered (rank keep)) same))
kept_from keep (m ∷ ls) l (inr later) here = of (keep m.number) (kept_from keep ls l later here)
  where
    of : (b : Bool) → Among (renumbered (rank keep) l) (kept_lemmas keep ls)
        → Among (renumbered (rank keep) l) (kept_first b (renumbered (rank keep) m) (kept_lemmas keep ls))
    of true more = inr more
    of false more = more

-- a lemma of those that are kept is one of all
pub record IsKept (keep : ℕ → Bool) (ls : List Lemma) (m : Lemma) : Type 0 where
  pub old : Lemma
  pub among : Among old ls
  pub kept : keep old.number ≡ true
  pub anew : renumbered (rank keep) old ≡ m

kept_gives : (keep : ℕ → Bool) (ls : List Lemma) (m : Lemma) → Among m (kept_lemmas keep ls) → IsKept keep ls m
kept_gives keep [] m among = absurd among
kept_gives keep (l ∷ ls) m among = of (keep l.number) refl among (kept_gives keep ls m)
  where
    further : IsKept keep ls m → IsKept keep (l ∷ ls) m
    further k = record { old = k.old; among = inr k.among; kept = k.kept; anew = k.anew }

    of : (b : Bool) → keep l.number ≡ b → Among m (kept_first b (renumbered (rank keep) l) (kept_lemmas keep ls))
        → (Among m (kept_lemmas keep ls) → IsKept keep ls m) → IsKept keep (l ∷ ls) m
    of true here (inl same) shorter = record { old = l; among = inl refl; kept = here; anew = same }
    of true here (inr later) shorter = further (shorter later)
    of false not later shorter = further (shorter later)

module _ (ls : List Lemma) (v : Verdict) (ordered : CitesEarlier 1 ls) where
  reached_anew : (n : ℕ) → IsReached ls v n → IsReached (trimmed ls v) (trimmed_verdict ls v) (rank (is_reached ls v) n)
  reached_anew _ (Named n has) =
      Named _ (number_anew (rank (is_reached ls v)) (numbers_named v) _ n (named_anew (rank (is_reached ls v)) v) has)
  reached_anew _ (Cited l n has reached cites) =
      Cited (renumbered (rank (is_reached ls v)) l) _
      (contained_among (trimmed ls v) _ (kept_from (is_reached ls v) ls l (among_contained ls l has) ((reached_is ls v l.number ordered).1 reached)))
      (reached_anew l.number reached)
      (number_anew (rank (is_reached ls v)) (numbers_cited l.reason) _ n (cited_anew (rank (is_reached ls v)) l.reason) cites)

  pub all_reached : (m : Lemma) → Contains (trimmed ls v) m → IsReached (trimmed ls v) (trimmed_verdict ls v) m.number
  all_reached m has =
      let kept = kept_gives (is_reached ls v) ls m (among_contained (trimmed ls v) m has) in
      subst (λ (m : Lemma). IsReached (trimmed ls v) (trimmed_verdict ls v) m.number) kept.anew
      (reached_anew kept.old.number ((reached_is ls v kept.old.number ordered).0 kept.kept))

pub text_reached : (version : Version) (bytes written : List ℕ) (v : Verdict) (count : ℕ) (trim : IsTrimmedText version bytes written v count) (l : Lemma)
    → Contains (trimmed (lemmas_among trim.text.entries) v) l
    → IsReached (trimmed (lemmas_among trim.text.entries) v) (trimmed_verdict (lemmas_among trim.text.entries) v) l.number
text_reached version bytes written v count trim l has =
    all_reached (lemmas_among trim.text.entries) v (right_ordered trim.text.root [] (lemmas_among trim.text.entries) trim.text.after trim.text.right) l has
