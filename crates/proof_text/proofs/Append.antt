-- What lemmas show, as more of them follow.
use Rattle.std.proofs.Common.{◌≡◌, ◌⊎◌, ℕ, zero, suc, ◌+◌, ◌≤◌, List, [], ◌∷◌, ◌++◌, length, Some, refl, sym, ap, ◌∙◌, subst, append_assoc, append-nil, inl}
use Rattle.std.proofs.Common.{inr, arith, add-one}
use Rattle.std.proofs.lemmas.List.{length-append}
use Rattle.std.proofs.lemmas.Option.{some_pair_parts}
use Rattle.std.specs.List.{slice_get}
use Rattle.game_rules.specs.Position.{Position}
use Rattle.game_rules.specs.Mirror.{mirror}
use Rattle.plan_text.proofs.Spaced.{all_each}
use Rattle.proof_text.specs.Lemma.{Reason, ByEnd, ByOne, ByAll, ByPlan, ByMirror, Lemma}
use Rattle.proof_text.specs.Right.{Shown, Shows, IsCited, HasReason, IsRight, AreRight, IsVerdict}
use Rattle.proof_text.specs.declared.Claim.{Claim}
use Rattle.proof_text.specs.declared.Verdict.{Verdict}
use Rattle.proof_text.specs.declared.Verdict.TheVariants.{Win, Loss, Draw, Unknown}

-- ---- what is shown

-- what is shown stays shown
pub Shows_more : (known more : List Shown) (n : ℕ) (p : Position) (claim : Claim) → Shows known n p claim → Shows (known ++ more) n p claim
Shows_more known more zero p claim h = h
Shows_more [] more (suc i) p claim h = cc
Shows_more (shown ∷ known) more (suc zero) p claim h = h
Shows_more (shown ∷ known) more (suc (suc i)) p claim h = Shows_more known more (suc i) p claim h

-- the last lemma shows what it claims
pub Shows_last : (known : List Shown) (p : Position) (claim : Claim) → Shows (known ++ (p, claim) ∷ []) (length known + 1) p claim
Shows_last known p claim = rw (add-one (length known)) (last known)
  where
    last : (known : List Shown) → slice_get (known ++ (p, claim) ∷ []) (length known) ≡ Some (p, claim)
    last [] = refl
    last (shown ∷ known) = last known

-- what is shown with one more lemma was shown before, or is what that lemma shows
pub Shows_push : (known : List Shown) (n : ℕ) (p q : Position) (claim said : Claim) → Shows (known ++ (p, claim) ∷ []) n q said
    → Shows known n q said ⊎ ((p ≡ q) × (claim ≡ said))
Shows_push known zero p q claim said h = cc
Shows_push [] (suc zero) p q claim said h = let parts = some_pair_parts p q claim said h in inr parts
Shows_push [] (suc (suc i)) p q claim said h = cc
Shows_push (shown ∷ known) (suc zero) p q claim said h = inl h
Shows_push (shown ∷ known) (suc (suc i)) p q claim said h = Shows_push known (suc i) p q claim said h

-- a lemma that shows something has a number among those before
pub Shows_number : (known : List Shown) (n : ℕ) (p : Position) (claim : Claim) → Shows known n p claim → (1 ≤ n) × (n ≤ length known)
Shows_number known zero p claim h = cc
Shows_number [] (suc i) p claim h = cc
Shows_number (shown ∷ known) (suc zero) p claim h = (omega arith, omega arith)
Shows_number (shown ∷ known) (suc (suc i)) p claim h = let later = Shows_number known (suc i) p claim h in (omega arith, omega arith)

pub HasReason_more : (known more : List Shown) (p : Position) (claim : Claim) (reason : Reason) → HasReason known p claim reason
    → HasReason (known ++ more) p claim reason
HasReason_more known more p claim ByEnd h = h
HasReason_more known more p claim (ByOne cite) h =
    record { goes_on = h.goes_on; serves = h.serves; playable = h.playable; cited = Shows_more known more cite.lemma _ claim h.cited }
HasReason_more known more p claim (ByAll cites) h =
    record {
      goes_on = h.goes_on;
      serves = h.serves;
      playable = h.playable;
      cited = all_each (IsCited known p claim) (IsCited (known ++ more) p claim) cites (λ cite cited. Shows_more known more cite.lemma _ claim cited) h.cited;
    }
HasReason_more known more p claim (ByPlan ws) h = h
HasReason_more known more p claim (ByMirror n) h = Shows_more known more n (mirror p) claim h

pub IsVerdict_more : (root : Position) (known more : List Shown) (v : Verdict) → IsVerdict root known v → IsVerdict root (known ++ more) v
IsVerdict_more root known more (Win n) h = Shows_more known more n root _ h
IsVerdict_more root known more (Loss n) h = Shows_more known more n root _ h
IsVerdict_more root known more (Draw n m) h = (Shows_more known more n root _ h.0, Shows_more known more m root _ h.1)
IsVerdict_more root known more Unknown h = tt

-- ---- lists of right lemmas

-- what is shown after them is what was shown before, and one claim for each lemma
pub shown_more : (root : Position) (known : List Shown) (ls : List Lemma) (after : List Shown) → AreRight root known ls after
    → (more : List Shown) × (after ≡ known ++ more) × (length more ≡ length ls)
shown_more root known [] after right = ([], right ∙ sym (append-nil known), refl)
shown_more root known (l ∷ ls) after (p, one, rest) =
    let later = shown_more root (known ++ (p, l.claim) ∷ []) ls after rest in
    ((p, l.claim) ∷ later.0, later.1 ∙ append_assoc known ((p, l.claim) ∷ []) later.0, omega arith)

pub length_shown : (root : Position) (known : List Shown) (ls : List Lemma) (after : List Shown) → AreRight root known ls after
    → length after ≡ length known + length ls
length_shown root known ls after right = let more = shown_more root known ls after right in ap length more.1 ∙ length-append known more.0
    ∙ ap (λ n. length known + n) more.2

pub AreRight_append : (root : Position) (known mid after : List Shown) (ls more : List Lemma) → AreRight root known ls mid → AreRight root mid more after
    → AreRight root known (ls ++ more) after
AreRight_append root known mid after [] more first second = subst (λ k. AreRight root k more after) first second
AreRight_append root known mid after (l ∷ ls) more (p, one, rest) second =
    (p, one, AreRight_append root (known ++ (p, l.claim) ∷ []) mid after ls more rest second)

-- one more right lemma
pub AreRight_push : (root : Position) (known mid : List Shown) (ls : List Lemma) (l : Lemma) (p : Position) → AreRight root known ls mid → IsRight root mid l p
    → AreRight root known (ls ++ l ∷ []) (mid ++ (p, l.claim) ∷ [])
AreRight_push root known mid ls l p first one = AreRight_append root known mid (mid ++ (p, l.claim) ∷ []) ls (l ∷ []) first (p, one, refl)

-- and the lists between
pub AreRight_parts : (root : Position) (known after : List Shown) (ls more : List Lemma) → AreRight root known (ls ++ more) after
    → (mid : List Shown) × AreRight root known ls mid × AreRight root mid more after
AreRight_parts root known after [] more right = (known, refl, right)
AreRight_parts root known after (l ∷ ls) more (p, one, rest) =
    let parts = AreRight_parts root (known ++ (p, l.claim) ∷ []) after ls more rest in
    (parts.0, (p, one, parts.1), parts.2)

-- what is shown after right lemmas is one list
pub shown_once : (root : Position) (known : List Shown) (ls : List Lemma) (after also : List Shown) → AreRight root known ls after → AreRight root known ls also
    → after ≡ also
shown_once root known [] after also first second = first ∙ sym second
shown_once root known (l ∷ ls) after also (p, one, rest) (q, other, more) =
    let same : p ≡ q = same_some (sym one.along ∙ other.along) in
    shown_once root (known ++ (p, l.claim) ∷ []) ls after also rest (subst (λ q. AreRight root (known ++ (q, l.claim) ∷ []) ls also) (sym same) more)
  where
    same_some : Some p ≡ Some q → p ≡ q
    same_some e = cc
