-- The test of what is reached: it finds just that, and what a reached lemma cites is reached.
use Rattle.std.proofs.Common.{◌≡◌, ◌↔◌, ◌⊎◌, ℕ, suc, ◌+◌, ◌<◌, ◌≤◌, true, false, ◌==◌, List, [], ◌∷◌, ◌++◌, length, map, refl, sym, ap, ◌∙◌}
use Rattle.std.proofs.Common.{subst, inl, inr, arith}
use Rattle.std.specs.List.{AllByRecursion, Contains}
use Rattle.std.proofs.lemmas.Bool.{cases_Bool, eq-eqb, eqb-true}
use Rattle.game_rules.specs.Position.{Position}
use Rattle.game_rules.proofs.Lists.{Among, Among-at, any_gives, any_from, Among-append_left, Among-append_right}
use Rattle.proof_text.specs.Lemma.{Cite, Reason, ByEnd, ByOne, ByAll, ByPlan, ByMirror, Lemma}
use Rattle.proof_text.specs.Right.{Shown, IsCited, HasReason, AreRight}
use Rattle.proof_text.specs.declared.Claim.{Claim}
use Rattle.proof_text.specs.declared.Verdict.{Verdict}
use Rattle.proof_text.proofs.Append.{Shows_number}
use Rattle.tool_text.specs.Trim.{numbers_cited, numbers_named, IsReached, Named, Cited, IsEarlier, CitesEarlier, has_number, with_cites, wanted_by, is_reached}
use Rattle.tool_text.proofs.Keeping.{IsClosed}

-- ---- elements

pub among_contained : {X : Type 0} (xs : List X) (x : X) → Contains xs x → Among x xs
among_contained xs x (k, within, at) = subst (λ y. Among y xs) at (Among-at xs k x within)

pub contained_among : {X : Type 0} (xs : List X) (x : X) → Among x xs → Contains xs x
contained_among [] x among = absurd among
contained_among (y ∷ xs) x (inl same) = (0, omega arith, same)
contained_among (y ∷ xs) x (inr later) = let rest = contained_among xs x later in (suc rest.0, omega (arith, rest.1), rest.2)

pub number_gives : (ns : List ℕ) (n : ℕ) → has_number ns n ≡ true → Among n ns
number_gives ns n h = let found = any_gives (λ m. m == n) ns h in subst (λ m. Among m ns) (eqb-true found.0 n found.2) found.1

pub number_from : (ns : List ℕ) (n : ℕ) → Among n ns → has_number ns n ≡ true
number_from ns n among = any_from (λ m. m == n) ns n among (eq-eqb n n refl)

pub all_among : (P : ℕ → Type 0) (ns : List ℕ) → AllByRecursion P ns → (n : ℕ) → Among n ns → P n
all_among P [] all n among = absurd among
all_among P (m ∷ ns) all n (inl same) = subst P same all.0
all_among P (m ∷ ns) all n (inr later) = all_among P ns all.1 n later

pub among_all : (P : ℕ → Type 0) (ns : List ℕ) → ((n : ℕ) → Among n ns → P n) → AllByRecursion P ns
among_all P [] each = tt
among_all P (m ∷ ns) each = (each m (inl refl), among_all P ns (λ n among. each n (inr among)))

-- ---- the order of right lemmas

cites_known : (known : List Shown) (p : Position) (claim : Claim) (cites : List Cite) → AllByRecursion (IsCited known p claim) cites
    → AllByRecursion (IsEarlier (length known + 1)) (map (λ cite. cite.lemma) cites)
cites_known known p claim [] cited = tt
cites_known known p claim (cite ∷ cites) cited =
    let number = Shows_number known cite.lemma _ claim cited.0 in ((number.0, omega (arith, number.1)), cites_known known p claim cites cited.1)

reason_known : (known : List Shown) (p : Position) (claim : Claim) (reason : Reason) → HasReason known p claim reason
    → AllByRecursion (IsEarlier (length known + 1)) (numbers_cited reason)
reason_known known p claim ByEnd h = tt
reason_known known p claim (ByOne cite) h = let number = Shows_number known cite.lemma _ claim h.cited in ((number.0, omega (arith, number.1)), tt)
reason_known known p claim (ByAll cites) h = cites_known known p claim cites h.cited
reason_known known p claim (ByPlan ws) h = tt
reason_known known p claim (ByMirror n) h = let number = Shows_number known n _ claim h in ((number.0, omega (arith, number.1)), tt)

pub right_ordered : (root : Position) (known : List Shown) (ls : List Lemma) (after : List Shown) → AreRight root known ls after
    → CitesEarlier (length known + 1) ls
right_ordered root known [] after right = tt
right_ordered root known (l ∷ ls) after (p, one, rest) = (
  one.next,
  reason_known known p l.claim l.reason one.reason,
  subst (λ n. CitesEarlier (n + 1) ls) (length-push known (p, l.claim)) (right_ordered root (known ++ (p, l.claim) ∷ []) ls after rest),
)
  where
    length-push : (known : List Shown) (shown : Shown) → length (known ++ shown ∷ []) ≡ length known + 1
    length-push [] shown = refl
    length-push (x ∷ known) shown = omega (arith, length-push known shown)

-- later lemmas have larger numbers
pub later_number : (first : ℕ) (ls : List Lemma) (l : Lemma) → CitesEarlier first ls → Among l ls → first ≤ l.number
later_number first [] l ordered among = absurd among
later_number first (m ∷ ls) l ordered (inl same) = let e : first ≡ l.number = sym ordered.0 ∙ ap (λ l. l.number) same in omega (arith, e)
later_number first (m ∷ ls) l ordered (inr later) = let more = later_number (first + 1) ls l ordered.2 later in omega (arith, more)

-- ---- what is wanted

-- which way the lemma was looked at
with_some : (wanted : List ℕ) (l : Lemma) → has_number wanted l.number ≡ true → with_cites wanted l ≡ numbers_cited l.reason ++ wanted
with_some wanted l h = rw h refl

with_none : (wanted : List ℕ) (l : Lemma) → has_number wanted l.number ≡ false → with_cites wanted l ≡ wanted
with_none wanted l h = rw h refl

-- what was wanted is wanted still
wanted_still : (wanted : List ℕ) (l : Lemma) (n : ℕ) → Among n wanted → Among n (with_cites wanted l)
wanted_still wanted l n among = elim (cases_Bool (has_number wanted l.number)) [
  | inl h ↦ subst (Among n) (sym (with_some wanted l h)) (Among-append_right n (numbers_cited l.reason) wanted among)
  | inr h ↦ subst (Among n) (sym (with_none wanted l h)) among
]

-- what is wanted now was wanted before, or a wanted lemma cites it
wanted_anew : (wanted : List ℕ) (l : Lemma) (n : ℕ) → Among n (with_cites wanted l)
    → Among n wanted ⊎ (Among l.number wanted × Among n (numbers_cited l.reason))
wanted_anew wanted l n among = elim (cases_Bool (has_number wanted l.number)) [
  | inl h ↦ of (number_gives wanted l.number h) (among_either (numbers_cited l.reason) wanted n (subst (Among n) (with_some wanted l h) among))
  | inr h ↦ inl (subst (Among n) (with_none wanted l h) among)
]
  where
    of : Among l.number wanted → Among n (numbers_cited l.reason) ⊎ Among n wanted
        → Among n wanted ⊎ (Among l.number wanted × Among n (numbers_cited l.reason))
    of here (inl cited) = inr (here, cited)
    of here (inr before) = inl before

    among_either : (xs ys : List ℕ) (n : ℕ) → Among n (xs ++ ys) → Among n xs ⊎ Among n ys
    among_either [] ys n among = inr among
    among_either (x ∷ xs) ys n (inl same) = inl (inl same)
    among_either (x ∷ xs) ys n (inr later) = elim (among_either xs ys n later) [
      | inl first ↦ inl (inr first)
      | inr second ↦ inr second
    ]

-- a larger number isn't among smaller ones
not_below : (first n : ℕ) (ns : List ℕ) → AllByRecursion (IsEarlier first) ns → first ≤ n → Among n ns → ⊥
not_below first n ns all large among = let small = all_among (IsEarlier first) ns all n among in absurd (omega (arith, small.1, large))

-- what a wanted lemma cites is wanted
pub wanted_closed : (v : Verdict) (first : ℕ) (ls : List Lemma) → CitesEarlier first ls → (l : Lemma) → Among l ls → Among l.number (wanted_by v ls)
    → (n : ℕ) → Among n (numbers_cited l.reason) → Among n (wanted_by v ls)
wanted_closed v first [] ordered l among wanted n cited = absurd among
wanted_closed v first (m ∷ ls) ordered l (inl same) wanted n cited =
    here (wanted_anew (wanted_by v ls) m l.number wanted)
  where
    number : l.number ≡ first
    number = ap (λ l. l.number) (sym same) ∙ ordered.0

    smaller : Among l.number (numbers_cited m.reason) → ⊥
    smaller among = not_below first l.number (numbers_cited m.reason) ordered.1 (omega (arith, number)) among

    with_it : Among l.number (wanted_by v ls) → Among n (with_cites (wanted_by v ls) m)
    with_it before =
        subst (Among n) (sym (with_some (wanted_by v ls) m
        (number_from (wanted_by v ls) m.number (subst (λ l. Among l.number (wanted_by v ls)) (sym same) before))))
        (Among-append_left n (numbers_cited m.reason) (wanted_by v ls) (subst (λ l. Among n (numbers_cited l.reason)) (sym same) cited))

    here : Among l.number (wanted_by v ls) ⊎ (Among m.number (wanted_by v ls) × Among l.number (numbers_cited m.reason))
        → Among n (with_cites (wanted_by v ls) m)
    here (inl before) = with_it before
    here (inr cites) = absurd (smaller cites.1)
wanted_closed v first (m ∷ ls) ordered l (inr later) wanted n cited =
    wanted_still (wanted_by v ls) m n (wanted_closed v (first + 1) ls ordered.2 l later (before (wanted_anew (wanted_by v ls) m l.number wanted)) n cited)
  where
    before : Among l.number (wanted_by v ls) ⊎ (Among m.number (wanted_by v ls) × Among l.number (numbers_cited m.reason)) → Among l.number (wanted_by v ls)
    before (inl stood) = stood
    before (inr cites) =
        absurd (not_below first l.number (numbers_cited m.reason) ordered.1 (let more = later_number (first + 1) ls l ordered.2 later in
        omega (arith, more)) cites.1)

-- ---- the test and what it finds

more_reached : (l : Lemma) (ls : List Lemma) (v : Verdict) (n : ℕ) → IsReached ls v n → IsReached (l ∷ ls) v n
more_reached l ls v _ (Named n among) = Named n among
more_reached l ls v _ (Cited m n among reached cited) = Cited m n (further among) (more_reached l ls v m.number reached) cited
  where
    further : Contains ls m → Contains (l ∷ ls) m
    further (k, within, at) = (suc k, omega (arith, within), at)

pub reached_tested : (v : Verdict) (ls : List Lemma) (n : ℕ) → Among n (wanted_by v ls) → IsReached ls v n
reached_tested v [] n among = Named n (contained_among (numbers_named v) n among)
reached_tested v (l ∷ ls) n among = of (wanted_anew (wanted_by v ls) l n among) (reached_tested v ls)
  where
    of : Among n (wanted_by v ls) ⊎ (Among l.number (wanted_by v ls) × Among n (numbers_cited l.reason))
        → ((n : ℕ) → Among n (wanted_by v ls) → IsReached ls v n) → IsReached (l ∷ ls) v n
    of (inl before) shorter = more_reached l ls v n (shorter n before)
    of (inr cites) shorter =
        Cited l n (0, omega arith, refl) (more_reached l ls v l.number (shorter l.number cites.0)) (contained_among (numbers_cited l.reason) n cites.1)

named_wanted : (v : Verdict) (ls : List Lemma) (n : ℕ) → Among n (numbers_named v) → Among n (wanted_by v ls)
named_wanted v [] n among = among
named_wanted v (l ∷ ls) n among = wanted_still (wanted_by v ls) l n (named_wanted v ls n among)

pub tested_reached : (v : Verdict) (first : ℕ) (ls : List Lemma) → CitesEarlier first ls → (n : ℕ) → IsReached ls v n → Among n (wanted_by v ls)
tested_reached v first ls ordered _ (Named n among) = named_wanted v ls n (among_contained (numbers_named v) n among)
tested_reached v first ls ordered _ (Cited l n among reached cited) =
    wanted_closed v first ls ordered l (among_contained ls l among) (tested_reached v first ls ordered l.number reached) n
    (among_contained (numbers_cited l.reason) n cited)

pub reached_is : (ls : List Lemma) (v : Verdict) (n : ℕ) → CitesEarlier 1 ls → (is_reached ls v n ≡ true) ↔ IsReached ls v n
reached_is ls v n ordered = (
  λ h. reached_tested v ls n (number_gives (wanted_by v ls) n h),
  λ reached. number_from (wanted_by v ls) n (tested_reached v 1 ls ordered n reached),
)

-- ---- what is reached is closed under citing

pub reached_closed : (v : Verdict) (first : ℕ) (ls : List Lemma) → CitesEarlier first ls → IsClosed (is_reached ls v) ls
reached_closed v first ls ordered = each ls (λ l among. among)
  where
    each : (some : List Lemma) → ((l : Lemma) → Among l some → Among l ls) → IsClosed (is_reached ls v) some
    each [] within = tt
    each (l ∷ some) within = (
      λ reached. among_all (λ n. is_reached ls v n ≡ true) (numbers_cited l.reason)
          (λ n cited. number_from (wanted_by v ls) n
          (wanted_closed v first ls ordered l (within l (inl refl)) (number_gives (wanted_by v ls) l.number reached) n cited)),
      each some (λ m among. within m (inr among)),
    )

pub named_reached : (v : Verdict) (ls : List Lemma) → AllByRecursion (λ n. is_reached ls v n ≡ true) (numbers_named v)
named_reached v ls = among_all (λ n. is_reached ls v n ≡ true) (numbers_named v) (λ n among. number_from (wanted_by v ls) n (named_wanted v ls n among))
