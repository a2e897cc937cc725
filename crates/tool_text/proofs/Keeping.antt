-- Lemmas of which some are kept, with all that these cite, are right, with their numbers anew.
use Rattle.std.proofs.Common.{◌≡◌, ◌⊎◌, ℕ, zero, suc, ◌+◌, Bool, true, false, List, [], ◌∷◌, ◌++◌, length, map, refl, sym, ap, ◌∙◌}
use Rattle.std.proofs.Common.{subst, inl, inr, arith, add-one}
use Rattle.std.specs.List.{AllByRecursion}
use Rattle.std.proofs.lemmas.List.{length-append}
use Rattle.std.proofs.lemmas.Option.{some_pair_parts}
use Rattle.game_rules.specs.Position.{Position}
use Rattle.proof_text.specs.Lemma.{Cite, Reason, ByEnd, ByOne, ByAll, ByPlan, ByMirror, Lemma}
use Rattle.proof_text.specs.Right.{Shown, Shows, IsCited, HasReason, IsRight, AreRight, IsVerdict}
use Rattle.proof_text.specs.declared.Claim.{Claim}
use Rattle.proof_text.specs.declared.Verdict.{Verdict}
use Rattle.proof_text.specs.declared.Verdict.TheVariants.{Win, Loss, Draw, Unknown}
use Rattle.proof_text.proofs.Append.{Shows_more, Shows_last}
use Rattle.tool_text.specs.Trim.{numbers_cited, numbers_named, rank, renumbered_cite, renumbered_reason, renumbered, renumbered_verdict}
use Rattle.tool_text.specs.Trim.{kept_first, kept_lemmas}

-- what a lemma that is kept cites is kept
abbrev pub IsClosed : (ℕ → Bool) → List Lemma → Type 0
IsClosed keep ls = AllByRecursion (λ l. keep l.number ≡ true → AllByRecursion (λ n. keep n ≡ true) (numbers_cited l.reason)) ls

-- ---- what the kept lemmas show

-- what a kept lemma shows is shown under its new number
pub record Keeps (keep : ℕ → Bool) (known kept : List Shown) : Type 0 where
  pub counted : length kept ≡ rank keep (length known)
  pub shows : (n : ℕ) (p : Position) (claim : Claim) → keep n ≡ true → Shows known n p claim → Shows kept (rank keep n) p claim

pub keeps_none : (keep : ℕ → Bool) → Keeps keep [] []
keeps_none keep = record { counted = refl; shows = none }
  where
    none : (n : ℕ) (p : Position) (claim : Claim) → keep n ≡ true → Shows [] n p claim → Shows [] (rank keep n) p claim
    none zero p claim kept h = cc
    none (suc i) p claim kept h = cc

-- what is shown with one lemma more was shown before, or is what the last lemma shows
shows_end : (known : List Shown) (n : ℕ) (p q : Position) (claim said : Claim) → Shows (known ++ (p, claim) ∷ []) n q said
    → Shows known n q said ⊎ ((n ≡ length known + 1) × (p ≡ q) × (claim ≡ said))
shows_end known zero p q claim said h = cc
shows_end [] (suc zero) p q claim said h = let parts = some_pair_parts p q claim said h in inr (refl, parts.0, parts.1)
shows_end [] (suc (suc i)) p q claim said h = cc
shows_end (shown ∷ known) (suc zero) p q claim said h = inl h
shows_end (shown ∷ known) (suc (suc i)) p q claim said h = later (shows_end known (suc i) p q claim said h)
  where
    later : Shows known (suc i) q said ⊎ ((suc i ≡ length known + 1) × (p ≡ q) × (claim ≡ said))
        → Shows (shown ∷ known) (suc (suc i)) q said ⊎ ((suc (suc i) ≡ length (shown ∷ known) + 1) × (p ≡ q) × (claim ≡ said))
    later (inl before) = inl before
    later (inr (here, same, also)) = inr (let e : suc (suc i) ≡ length (shown ∷ known) + 1 = omega (arith, here) in (e, same, also))

-- the new number of the next lemma
pub rank_kept : (keep : ℕ → Bool) (n : ℕ) → keep (n + 1) ≡ true → rank keep (n + 1) ≡ rank keep n + 1
rank_kept keep n kept = rw (add-one n) (rw (subst (λ m. keep m ≡ true) (add-one n) kept) refl)

pub rank_dropped : (keep : ℕ → Bool) (n : ℕ) → keep (n + 1) ≡ false → rank keep (n + 1) ≡ rank keep n
rank_dropped keep n dropped = rw (add-one n) (rw (subst (λ m. keep m ≡ false) (add-one n) dropped) refl)

module _ (keep : ℕ → Bool) (known kept : List Shown) (keeps : Keeps keep known kept) (p : Position) (claim : Claim) where
  length_more : length (known ++ (p, claim) ∷ []) ≡ length known + 1
  length_more = length-append known ((p, claim) ∷ [])

  pub keeps_more : keep (length known + 1) ≡ true → Keeps keep (known ++ (p, claim) ∷ []) (kept ++ (p, claim) ∷ [])
  keeps_more is_kept = record {
    counted = length-append kept ((p, claim) ∷ []) ∙ ap (λ n. n + 1) keeps.counted ∙ sym (ap (rank keep) length_more ∙ rank_kept keep (length known) is_kept);
    shows = shows;
  }
    where
      last : Shows (kept ++ (p, claim) ∷ []) (rank keep (length known + 1)) p claim
      last = subst (λ n. Shows (kept ++ (p, claim) ∷ []) n p claim) (ap (λ n. n + 1) keeps.counted ∙ sym (rank_kept keep (length known) is_kept))
          (Shows_last kept p claim)

      shows : (n : ℕ) (q : Position) (said : Claim) → keep n ≡ true → Shows (known ++ (p, claim) ∷ []) n q said
          → Shows (kept ++ (p, claim) ∷ []) (rank keep n) q said
      shows n q said here h = elim (shows_end known n p q claim said h) [
        | inl before ↦ Shows_more kept ((p, claim) ∷ []) (rank keep n) q said (keeps.shows n q said here before)
        | inr at ↦ subst (λ n. Shows (kept ++ (p, claim) ∷ []) (rank keep n) q said) (sym at.0)
            (subst (λ q. Shows (kept ++ (p, claim) ∷ []) (rank keep (length known + 1)) q said) at.1
            (subst (λ said. Shows (kept ++ (p, claim) ∷ []) (rank keep (length known + 1)) p said) at.2 last))
      ]

  pub keeps_less : keep (length known + 1) ≡ false → Keeps keep (known ++ (p, claim) ∷ []) kept
  keeps_less is_dropped = record {
    counted = keeps.counted ∙ sym (ap (rank keep) length_more ∙ rank_dropped keep (length known) is_dropped);
    shows = shows;
  }
    where
      shows : (n : ℕ) (q : Position) (said : Claim) → keep n ≡ true → Shows (known ++ (p, claim) ∷ []) n q said → Shows kept (rank keep n) q said
      shows n q said here h = elim (shows_end known n p q claim said h) [
        | inl before ↦ keeps.shows n q said here before
        | inr at ↦ let wrong : true ≡ false = sym here ∙ ap keep at.0 ∙ is_dropped in cc
      ]

-- ---- reasons

module _ (keep : ℕ → Bool) (known kept : List Shown) (keeps : Keeps keep known kept) (p : Position) (claim : Claim) where
  columns_kept : (cites : List Cite) → map (λ cite. cite.column) (map (renumbered_cite (rank keep)) cites) ≡ map (λ cite. cite.column) cites
  columns_kept [] = refl
  columns_kept (cite ∷ cites) = ap (λ columns. cite.column ∷ columns) (columns_kept cites)

  cited_kept : (cites : List Cite) → AllByRecursion (λ n. keep n ≡ true) (map (λ cite. cite.lemma) cites) → AllByRecursion (IsCited known p claim) cites
      → AllByRecursion (IsCited kept p claim) (map (renumbered_cite (rank keep)) cites)
  cited_kept [] here cited = tt
  cited_kept (cite ∷ cites) here cited = (keeps.shows cite.lemma _ claim here.0 cited.0, cited_kept cites here.1 cited.1)

  pub reason_kept : (reason : Reason) → AllByRecursion (λ n. keep n ≡ true) (numbers_cited reason) → HasReason known p claim reason
      → HasReason kept p claim (renumbered_reason (rank keep) reason)
  reason_kept ByEnd here h = h
  reason_kept (ByOne cite) here h =
      record { goes_on = h.goes_on; serves = h.serves; playable = h.playable; cited = keeps.shows cite.lemma _ claim here.0 h.cited }
  reason_kept (ByAll cites) here h =
      record { goes_on = h.goes_on; serves = h.serves; playable = columns_kept cites ∙ h.playable; cited = cited_kept cites here h.cited }
  reason_kept (ByPlan ws) here h = h
  reason_kept (ByMirror n) here h = keeps.shows n _ claim here.0 h

-- ---- lists of lemmas

-- the lemmas that are kept are right, behind what is kept before them
abbrev pub AreKept : (keep : ℕ → Bool) (root : Position) (kept : List Shown) (ls : List Lemma) (after : List Shown) → Type 0
AreKept keep root kept ls after = (also : List Shown) × AreRight root kept ls also × Keeps keep after also

pub kept_right : (keep : ℕ → Bool) (root : Position) (known kept : List Shown) (ls : List Lemma) (after : List Shown) → IsClosed keep ls → Keeps keep known kept
    → AreRight root known ls after → AreKept keep root kept (kept_lemmas keep ls) after
kept_right keep root known kept [] after closed keeps right = (kept, refl, subst (λ shown. Keeps keep shown kept) (sym right) keeps)
kept_right keep root known kept (l ∷ ls) after closed keeps (p, one, rest) = of (keep l.number) refl
    (λ kept keeps. kept_right keep root (known ++ (p, l.claim) ∷ []) kept ls after closed.1 keeps rest)
  where
    of : (b : Bool) → keep l.number ≡ b
        → ((kept : List Shown) → Keeps keep (known ++ (p, l.claim) ∷ []) kept → AreKept keep root kept (kept_lemmas keep ls) after)
        → AreKept keep root kept (kept_first b (renumbered (rank keep) l) (kept_lemmas keep ls)) after
    of true is_kept later =
        let here : keep (length known + 1) ≡ true = ap keep (sym one.next) ∙ is_kept in
        let more = later (kept ++ (p, l.claim) ∷ []) (keeps_more keep known kept keeps p l.claim here) in
        let next : rank keep l.number ≡ length kept + 1 = ap (rank keep) one.next ∙ rank_kept keep (length known) here ∙ ap (λ n. n + 1) (sym keeps.counted) in
        let right : IsRight root kept (renumbered (rank keep) l) p =
        record { next = next; along = one.along; reason = reason_kept keep known kept keeps p l.claim l.reason (closed.0 is_kept) one.reason } in
        (more.0, (p, right, more.1), more.2)
    of false is_dropped later = later kept (keeps_less keep known kept keeps p l.claim (ap keep (sym one.next) ∙ is_dropped))

-- and a verdict of which each number is kept
pub verdict_kept : (keep : ℕ → Bool) (root : Position) (known kept : List Shown) (v : Verdict) → Keeps keep known kept
    → AllByRecursion (λ n. keep n ≡ true) (numbers_named v) → IsVerdict root known v → IsVerdict root kept (renumbered_verdict (rank keep) v)
verdict_kept keep root known kept (Win n) keeps here h = keeps.shows n root _ here.0 h
verdict_kept keep root known kept (Loss n) keeps here h = keeps.shows n root _ here.0 h
verdict_kept keep root known kept (Draw n m) keeps here h = (keeps.shows n root _ here.0 h.0, keeps.shows m root _ here.1.0 h.1)
verdict_kept keep root known kept Unknown keeps here h = tt
