-- What is printed of the lemmas that are reached is the trimmed proof.
use Rattle.std.proofs.Common.{◌≡◌, ℕ, zero, suc, ◌+◌, ◌-◌, ◌<◌, ◌≤◌, Bool, true, false, cond, List, [], ◌∷◌, ◌++◌, length, map, drop}
use Rattle.std.proofs.Common.{get_or, Option, Some, None}
use Rattle.std.proofs.Common.{option_map, append-nil, refl, sym, ap, ◌∙◌, subst, arith, add-one}
use Rattle.std.specs.List.{AllByRecursion, slice_get}
use Rattle.proof_text.specs.Lemma.{Cite, Reason, ByEnd, ByOne, ByAll, ByPlan, ByMirror, Lemma}
use Rattle.proof_text.specs.Spelling.{lemma_line, lines_of}
use Rattle.proof_text.specs.declared.Claim.{Claim}
use Rattle.proof_text.specs.declared.Verdict.{Verdict}
use Rattle.proof_text.specs.declared.Verdict.TheVariants.{Win, Loss, Draw, Unknown}
use Rattle.tool_text.specs.Trim.{numbers_cited, numbers_named, IsEarlier, CitesEarlier, is_reached, rank, renumbered_cite, renumbered_reason, renumbered}
use Rattle.tool_text.specs.Trim.{renumbered_verdict, kept_first, kept_lemmas, trimmed, trimmed_verdict}
use Rattle.tool_text.proofs.Keeping.{IsClosed, rank_kept, rank_dropped}
use Rattle.tool_text.proofs.Reaching.{reached_closed, named_reached}
use Rattle.proof_tools.specs.Reach.{mark_at, reach_of, AreWithin}
use Rattle.proof_tools.specs.Printed.{AreMarked, IsClosedReach, lines_at}
use Rattle.proof_tools.proofs.Agreeing.{cites_within, lemma_ordered}

-- ---- numbers that are kept alike

module _ (some other : ℕ → Bool) (most : ℕ) (same : (n : ℕ) → 1 ≤ n → n ≤ most → some n ≡ other n) where
  rank_same : (n : ℕ) → n ≤ most → rank some n ≡ rank other n
  rank_same zero within = refl
  rank_same (suc n) within =
      ap (λ b. cond b (rank some n + 1) (rank some n)) (same (suc n) (omega arith) within)
      ∙ ap (λ k. cond (other (suc n)) (k + 1) k) (rank_same n (omega (arith, within)))

  cites_same : (cites : List Cite) → AreWithin most (map (λ cite. cite.lemma) cites)
      → map (renumbered_cite (rank some)) cites ≡ map (renumbered_cite (rank other)) cites
  cites_same [] within = refl
  cites_same (cite ∷ cites) within =
      ap (λ n. record { column = cite.column; lemma = n } ∷ map (renumbered_cite (rank some)) cites) (rank_same cite.lemma within.0.1)
      ∙ ap (λ rest. renumbered_cite (rank other) cite ∷ rest) (cites_same cites within.1)

  reason_same : (reason : Reason) → AreWithin most (numbers_cited reason) → renumbered_reason (rank some) reason ≡ renumbered_reason (rank other) reason
  reason_same ByEnd within = refl
  reason_same (ByOne cite) within = ap (λ n. ByOne (record { column = cite.column; lemma = n })) (rank_same cite.lemma within.0.1)
  reason_same (ByAll cites) within = ap ByAll (cites_same cites within)
  reason_same (ByPlan ws) within = refl
  reason_same (ByMirror n) within = ap ByMirror (rank_same n within.0.1)

  pub kept_same : (first : ℕ) (ls : List Lemma) → CitesEarlier first ls → 1 ≤ first → first + length ls ≤ most + 1
      → kept_lemmas some ls ≡ kept_lemmas other ls
  kept_same first [] ordered least room = refl
  kept_same first (l ∷ ls) ordered least room =
      let low : 1 ≤ l.number = omega (arith, ordered.0, least) in
      let high : l.number ≤ most = omega (arith, ordered.0, room) in
      let anew : renumbered (rank some) l ≡ renumbered (rank other) l =
      ap (λ n. record l { number = n; reason = renumbered_reason (rank some) l.reason }) (rank_same l.number high)
      ∙ ap (λ reason. record l { number = rank other l.number; reason = reason })
      (reason_same l.reason (cites_within first most (numbers_cited l.reason) ordered.1 (omega (arith, room)))) in
      ap (λ b. kept_first b (renumbered (rank some) l) (kept_lemmas some ls)) (same l.number low high)
      ∙ ap (λ anew. kept_first (other l.number) anew (kept_lemmas some ls)) anew
      ∙ ap (kept_first (other l.number) (renumbered (rank other) l)) (kept_same (first + 1) ls ordered.2 (omega arith) (omega (arith, room)))

  pub verdict_same : (v : Verdict) → AreWithin most (numbers_named v) → renumbered_verdict (rank some) v ≡ renumbered_verdict (rank other) v
  verdict_same (Win n) within = ap Win (rank_same n within.0.1)
  verdict_same (Loss n) within = ap Loss (rank_same n within.0.1)
  verdict_same (Draw n m) within = ap (λ n. Draw n (rank some m)) (rank_same n within.0.1) ∙ ap (Draw (rank other n)) (rank_same m within.1.0.1)
  verdict_same Unknown within = refl

-- ---- the marks are the test's

map_at : (g : ℕ → Bool) (some : List Lemma) (first i : ℕ) → CitesEarlier first some → i < length some
    → get_or (map (λ (l : Lemma). g l.number) some) i false ≡ g (first + i)
map_at g [] first i ordered low = absurd (omega (arith, low))
map_at g (l ∷ some) first zero ordered low = ap g (let e : l.number ≡ first + 0 = omega (arith, ordered.0) in e)
map_at g (l ∷ some) first (suc i) ordered low =
    map_at g some (first + 1) i ordered.2 (omega (arith, low)) ∙ ap g (let e : first + 1 + i ≡ first + suc i = omega arith in e)

module _ (v : Verdict) (ls : List Lemma) (ordered : CitesEarlier 1 ls) where
  pub reach_at : (n : ℕ) → 1 ≤ n → n ≤ length ls → mark_at (reach_of ls v) n ≡ is_reached ls v n
  reach_at zero least most = absurd (omega (arith, least))
  reach_at (suc i) least most =
      map_at (is_reached ls v) ls 1 i ordered (omega (arith, most)) ∙ ap (is_reached ls v) (let e : 1 + i ≡ suc i = omega arith in e)

  marked_all : (ns : List ℕ) → AreWithin (length ls) ns → AllByRecursion (λ n. is_reached ls v n ≡ true) ns → AreMarked (reach_of ls v) ns
  marked_all [] within all = tt
  marked_all (n ∷ ns) within all = (reach_at n within.0.0 within.0.1 ∙ all.0, marked_all ns within.1 all.1)

  pub named_marked : AreWithin (length ls) (numbers_named v) → AreMarked (reach_of ls v) (numbers_named v)
  named_marked within = marked_all (numbers_named v) within (named_reached v ls)

  pub reach_closed : IsClosedReach (reach_of ls v) ls
  reach_closed = each 1 ls ordered (omega arith) (omega arith) (reached_closed v 1 ls ordered)
    where
      each : (first : ℕ) (some : List Lemma) → CitesEarlier first some → 1 ≤ first → first + length some ≤ length ls + 1
          → IsClosed (is_reached ls v) some → IsClosedReach (reach_of ls v) some
      each first [] order least room closed = tt
      each first (l ∷ some) order least room closed = (
        λ marked. marked_all (numbers_cited l.reason) (cites_within first (length ls) (numbers_cited l.reason) order.1 (omega (arith, room)))
            (closed.0 (sym (reach_at l.number (omega (arith, order.0, least)) (omega (arith, order.0, room))) ∙ marked)),
        each (first + 1) some order.2 (omega arith) (omega (arith, room)) closed.1,
      )

-- ---- one lemma

-- the lines of all lemmas from a place on begin with that of the lemma there
pub lines_next : (keep : ℕ → Bool) (ls : List Lemma) (i : ℕ) → i < length ls
    → lines_of (kept_lemmas keep (drop i ls)) ≡ lines_at keep ls i ++ lines_of (kept_lemmas keep (drop (suc i) ls))
lines_next keep [] i low = absurd (omega (arith, low))
lines_next keep (l ∷ ls) zero low = of (keep l.number)
  where
    of : (b : Bool) → lines_of (kept_first b (renumbered (rank keep) l) (kept_lemmas keep ls))
        ≡ lines_of (kept_first b (renumbered (rank keep) l) []) ++ lines_of (kept_lemmas keep ls)
    of true = ap (λ line. line ++ lines_of (kept_lemmas keep ls)) (sym (append-nil (lemma_line (renumbered (rank keep) l))))
    of false = refl
lines_next keep (l ∷ ls) (suc i) low = lines_next keep ls i (omega (arith, low))

-- the same by the number of the lemma
pub lines_next_put : (keep : ℕ → Bool) (ls : List Lemma) (i : ℕ) → i < length ls
    → lines_of (kept_lemmas keep (drop i ls)) ≡ lines_at keep ls (i + 1 - 1) ++ lines_of (kept_lemmas keep (drop (i + 1) ls))
lines_next_put keep ls i low =
    lines_next keep ls i low
    ∙ ap (λ k. lines_at keep ls k ++ lines_of (kept_lemmas keep (drop (suc i) ls))) (let back : i ≡ i + 1 - 1 = omega arith in back)
    ∙ ap (λ k. lines_at keep ls (i + 1 - 1) ++ lines_of (kept_lemmas keep (drop k ls))) (sym (add-one i))

line_there : (keep : ℕ → Bool) (ls : List Lemma) (i : ℕ) (l : Lemma) → slice_get ls i ≡ Some l
    → lines_at keep ls i ≡ lines_of (kept_first (keep l.number) (renumbered (rank keep) l) [])
line_there keep [] i l at = absurd (cc at)
line_there keep (m ∷ ls) zero l at = let same : m ≡ l = cc at in ap (λ (l : Lemma). lines_of (kept_first (keep l.number) (renumbered (rank keep) l) [])) same
line_there keep (m ∷ ls) (suc i) l at = line_there keep ls i l at

closed_there : (marks : List Bool) (ls : List Lemma) (i : ℕ) (l : Lemma) → IsClosedReach marks ls → slice_get ls i ≡ Some l → mark_at marks l.number ≡ true
    → AreMarked marks (numbers_cited l.reason)
closed_there marks [] i l closed at marked = absurd (cc at)
closed_there marks (m ∷ ls) zero l closed at marked =
    let same : m ≡ l = cc at in
    subst (λ (l : Lemma). mark_at marks l.number ≡ true → AreMarked marks (numbers_cited l.reason)) same closed.0 marked
closed_there marks (m ∷ ls) (suc i) l closed at marked = closed_there marks ls i l closed.1 at marked

-- how many are kept up to a number, by those before it
module _ (keep : ℕ → Bool) (n : ℕ) (least : 1 ≤ n) where
  back : n - 1 + 1 ≡ n
  back = omega (arith, least)

  pub rank_with : keep n ≡ true → rank keep n ≡ rank keep (n - 1) + 1
  rank_with kept = ap (rank keep) (sym back) ∙ rank_kept keep (n - 1) (ap keep back ∙ kept)

  pub rank_without : keep n ≡ false → rank keep n ≡ rank keep (n - 1)
  rank_without dropped = ap (rank keep) (sym back) ∙ rank_dropped keep (n - 1) (ap keep back ∙ dropped)

-- the lemma with a number, which a book lends in parts
module _ (marks : List Bool) (ls : List Lemma) (n : ℕ) (least : 1 ≤ n) (ordered : CitesEarlier 1 ls) (l : Lemma) (at : slice_get ls (n - 1) ≡ Some l) where
  number_there : l.number ≡ n
  number_there = let there : l.number ≡ 1 + (n - 1) = (lemma_ordered 1 ls (n - 1) l ordered at).0 in omega (arith, there, least)

  pub cites_marked : (reason : Reason) → l.reason ≡ reason → IsClosedReach marks ls → mark_at marks n ≡ true → AreMarked marks (numbers_cited reason)
  cites_marked reason is closed marked =
      subst (λ reason. AreMarked marks (numbers_cited reason)) is
      (closed_there marks ls (n - 1) l closed at (ap (mark_at marks) number_there ∙ marked))

  pub line_kept : (path : List ℕ) (claim : Claim) (reason anew : Reason) → option_map (λ (l : Lemma). l.path) (slice_get ls (n - 1)) ≡ Some path
      → option_map (λ (l : Lemma). l.claim) (slice_get ls (n - 1)) ≡ Some claim → l.reason ≡ reason
      → anew ≡ renumbered_reason (rank (mark_at marks)) reason → mark_at marks n ≡ true → (number : ℕ) → number ≡ rank (mark_at marks) n
      → lemma_line (record { number = number; path = path; claim = claim; reason = anew }) ≡ lines_at (mark_at marks) ls (n - 1)
  line_kept path claim reason anew paths claims is renumbers marked number counted =
      let same_path : l.path ≡ path = cc (sym (ap (option_map (λ (l : Lemma). l.path)) at) ∙ paths) in
      let same_claim : l.claim ≡ claim = cc (sym (ap (option_map (λ (l : Lemma). l.claim)) at) ∙ claims) in
      let keep = mark_at marks in
      let kept : keep l.number ≡ true = ap keep number_there ∙ marked in
      sym (line_there keep ls (n - 1) l at ∙ ap (λ b. lines_of (kept_first b (renumbered (rank keep) l) [])) kept
      ∙ append-nil (lemma_line (renumbered (rank keep) l))
      ∙ ap (λ k. lemma_line (record { number = k; path = l.path; claim = l.claim; reason = renumbered_reason (rank keep) l.reason }))
      (ap (rank keep) number_there ∙ sym counted)
      ∙ ap (λ path. lemma_line (record { number = number; path = path; claim = l.claim; reason = renumbered_reason (rank keep) l.reason })) same_path
      ∙ ap (λ claim. lemma_line (record { number = number; path = path; claim = claim; reason = renumbered_reason (rank keep) l.reason })) same_claim
      ∙ ap (λ reason. lemma_line (record { number = number; path = path; claim = claim; reason = reason }))
      (ap (renumbered_reason (rank keep)) is ∙ sym renumbers))

  pub line_none : mark_at marks n ≡ false → lines_at (mark_at marks) ls (n - 1) ≡ []
  line_none dropped =
      line_there (mark_at marks) ls (n - 1) l at
      ∙ ap (λ b. lines_of (kept_first b (renumbered (rank (mark_at marks)) l) [])) (ap (mark_at marks) number_there ∙ dropped)

-- ---- all lemmas, and the verdict

module _ (marks : List Bool) (v : Verdict) (ls : List Lemma) (ordered : CitesEarlier 1 ls) (made : marks ≡ reach_of ls v) where
  pub trimmed_same : lines_of (kept_lemmas (mark_at marks) ls) ≡ lines_of (trimmed ls v)
  trimmed_same =
      ap (λ marks. lines_of (kept_lemmas (mark_at marks) ls)) made
      ∙ ap lines_of (kept_same (mark_at (reach_of ls v)) (is_reached ls v) (length ls) (reach_at v ls ordered) 1 ls ordered (omega arith) (omega arith))

  pub named_same : AreWithin (length ls) (numbers_named v) → renumbered_verdict (rank (mark_at marks)) v ≡ trimmed_verdict ls v
  named_same within =
      ap (λ marks. renumbered_verdict (rank (mark_at marks)) v) made
      ∙ verdict_same (mark_at (reach_of ls v)) (is_reached ls v) (length ls) (reach_at v ls ordered) v within
