-- The reason at which play stands: that of the lemma, or the one behind the mirror images that it names.
use Rattle.std.proofs.Common.{◌≡◌, ℕ, zero, suc, ◌+◌, ◌≤◌, ◌<◌, Bool, true, false, not, List, [], ◌∷◌, ◌++◌, length, Option, Some, refl, sym, ap, ◌∙◌, subst}
use Rattle.std.proofs.Common.{arith, append_assoc}
use Rattle.std.specs.List.{slice_get}
use Rattle.std.proofs.lemmas.List.{length-append}
use Rattle.std.specs.Option.{option_map}
use Rattle.std.proofs.lemmas.Option.{some_pair_parts, same_Some}
use Rattle.game_rules.specs.Position.{Position}
use Rattle.game_rules.specs.Mirror.{mirror}
use Rattle.proof_text.specs.Lemma.{Reason, ByEnd, ByOne, ByAll, ByPlan, ByMirror, Lemma}
use Rattle.proof_text.specs.Right.{Shown, Shows, HasReason, AreRight}
use Rattle.proof_text.specs.declared.Claim.{Claim}
use Rattle.proof_text.proofs.Append.{Shows_more, Shows_last, Shows_number, HasReason_more, shown_more}
use Rattle.follow_text.specs.Following.{seen, reason_at, go_through, through, behind_mirrors}
use Rattle.follow_text.proofs.Seen.{turned_back}

-- What the lemma shows is right by its reason, behind what the lemmas before it show.
pub record ProvedAt (known : List Shown) (ls : List Lemma) (after : List Shown) (i : ℕ) (p : Position) (claim : Claim) : Type 0 where
  pub lemma : Lemma
  pub earlier : List Shown
  pub more : List Shown
  pub found : slice_get ls i ≡ Some lemma
  pub parts : after ≡ earlier ++ more
  pub before : length earlier ≡ length known + i
  pub right : HasReason earlier p claim lemma.reason

pub proved_at : (root : Position) (known : List Shown) (ls : List Lemma) (after : List Shown) (i n : ℕ) (p : Position) (claim : Claim)
    → AreRight root known ls after → n ≡ length known + 1 + i → Shows after n p claim → ProvedAt known ls after i p claim
proved_at root known [] after i n p claim right number shows =
    let bound = Shows_number known n p claim (subst (λ k. Shows k n p claim) right shows) in absurd (omega arith)
proved_at root known (l ∷ ls) after zero n p claim (q, one, rest) number shows =
    let later = shown_more root (known ++ (q, l.claim) ∷ []) ls after rest in
    let last : Shows after (length known + 1) q l.claim = subst (λ k. Shows k (length known + 1) q l.claim) (sym later.1)
    (Shows_more (known ++ (q, l.claim) ∷ []) later.0 (length known + 1) q l.claim (Shows_last known q l.claim)) in
    let here : n ≡ length known + 1 = omega arith in
    let same = some_pair_parts q p l.claim claim (sym last ∙ subst (λ k. Shows after k p claim) here shows) in
    record {
      lemma = l;
      earlier = known;
      more = (q, l.claim) ∷ later.0;
      found = refl;
      parts = later.1 ∙ append_assoc known ((q, l.claim) ∷ []) later.0;
      before = omega arith;
      right = subst (λ c. HasReason known p c l.reason) same.1 (subst (λ r. HasReason known r l.claim l.reason) same.0 one.reason);
    }
proved_at root known (l ∷ ls) after (suc i) n p claim (q, one, rest) number shows =
    let longer = length-append known ((q, l.claim) ∷ []) in
    let later = proved_at root (known ++ (q, l.claim) ∷ []) ls after i n p claim rest (omega (arith, longer)) shows in
    record {
      lemma = later.lemma;
      earlier = later.earlier;
      more = later.more;
      found = later.found;
      parts = later.parts;
      before = omega (arith, later.before, longer);
      right = later.right;
    }

-- ---- behind mirror images

-- which reason is none of a mirror image
abbrev pub is_plain : Reason → Bool
is_plain ByEnd = true
is_plain (ByOne cite) = true
is_plain (ByAll cites) = true
is_plain (ByPlan ws) = true
is_plain (ByMirror n) = false

-- a reason that is none of a mirror image, and right at the position as it is seen there
pub record IsBehind (after : List Shown) (q : Position) (claim : Claim) (found : Option (Reason × Bool)) : Type 0 where
  pub reason : Reason
  pub turned : Bool
  pub is : found ≡ Some (reason, turned)
  pub plain : is_plain reason ≡ true
  pub right : HasReason after (seen turned q) claim reason

pub behind_at : (root : Position) (ls : List Lemma) (after : List Shown) (steps n : ℕ) (turned : Bool) (q : Position) (claim : Claim)
    → AreRight root [] ls after → Shows after n (seen turned q) claim → n ≤ steps → IsBehind after q claim (through ls steps n turned)
behind_at root ls after zero n turned q claim right shows low = let bound = Shows_number after n (seen turned q) claim shows in absurd (omega arith)
behind_at root ls after (suc steps) zero turned q claim right shows low =
    let bound = Shows_number after zero (seen turned q) claim shows in absurd (omega arith)
behind_at root ls after (suc steps) (suc i) turned q claim right shows low =
    let proved = proved_at root [] ls after i (suc i) (seen turned q) claim right (omega arith) shows in
    rw proved.found (of_reason proved.lemma.reason proved.earlier proved.more proved.parts proved.before proved.right
    (λ m shows low. behind_at root ls after steps m (not turned) q claim right shows low))
  where
    whole : (reason : Reason) (earlier more : List Shown) → after ≡ earlier ++ more → HasReason earlier (seen turned q) claim reason
        → HasReason after (seen turned q) claim reason
    whole reason earlier more parts right = subst (λ k. HasReason k (seen turned q) claim reason) (sym parts)
        (HasReason_more earlier more (seen turned q) claim reason right)

    of_reason : (reason : Reason) (earlier more : List Shown) → after ≡ earlier ++ more → length earlier ≡ 0 + i
        → HasReason earlier (seen turned q) claim reason
        → ((m : ℕ) → Shows after m (seen (not turned) q) claim → m ≤ steps → IsBehind after q claim (through ls steps m (not turned)))
        → IsBehind after q claim (go_through (Some reason) turned (λ m. through ls steps m (not turned)))
    of_reason (ByMirror m) earlier more parts before right later =
        let bound = Shows_number earlier m (mirror (seen turned q)) claim right in
        later m (subst (λ p. Shows after m p claim) (turned_back turned q)
        (subst (λ k. Shows k m (mirror (seen turned q)) claim) (sym parts) (Shows_more earlier more m (mirror (seen turned q)) claim right)))
        (omega (arith, bound.1, before))
    of_reason ByEnd earlier more parts before right later =
        record { reason = ByEnd; turned = turned; is = refl; plain = refl; right = whole ByEnd earlier more parts right }
    of_reason (ByOne cite) earlier more parts before right later =
        record { reason = ByOne cite; turned = turned; is = refl; plain = refl; right = whole (ByOne cite) earlier more parts right }
    of_reason (ByAll cites) earlier more parts before right later =
        record { reason = ByAll cites; turned = turned; is = refl; plain = refl; right = whole (ByAll cites) earlier more parts right }
    of_reason (ByPlan ws) earlier more parts before right later =
        record { reason = ByPlan ws; turned = turned; is = refl; plain = refl; right = whole (ByPlan ws) earlier more parts right }

-- the reason at a lemma that shows the claim of the position as it is seen
pub behind_it : (root : Position) (ls : List Lemma) (after : List Shown) (n : ℕ) (turned : Bool) (q : Position) (claim : Claim) → AreRight root [] ls after
    → Shows after n (seen turned q) claim → IsBehind after q claim (behind_mirrors ls n turned)
behind_it root ls after n turned q claim right shows = behind_at root ls after n n turned q claim right shows (omega arith)

-- more steps than the lemma's number change nothing
through_enough : (root : Position) (ls : List Lemma) (after : List Shown) (steps more n : ℕ) (turned : Bool) (p : Position) (claim : Claim)
    → AreRight root [] ls after → Shows after n p claim → n ≤ steps → n ≤ more → through ls steps n turned ≡ through ls more n turned
through_enough root ls after zero more n turned p claim right shows low also =
    let bound = Shows_number after n p claim shows in absurd (omega arith)
through_enough root ls after (suc steps) zero n turned p claim right shows low also =
    let bound = Shows_number after n p claim shows in absurd (omega arith)
through_enough root ls after (suc steps) (suc more) zero turned p claim right shows low also =
    let bound = Shows_number after zero p claim shows in absurd (omega arith)
through_enough root ls after (suc steps) (suc more) (suc i) turned p claim right shows low also =
    let proved = proved_at root [] ls after i (suc i) p claim right (omega arith) shows in
    rw proved.found (of_reason proved.lemma.reason proved.earlier proved.more proved.parts proved.before proved.right
    (λ m shows low also. through_enough root ls after steps more m (not turned) (mirror p) claim right shows low also))
  where
    of_reason : (reason : Reason) (earlier rest : List Shown) → after ≡ earlier ++ rest → length earlier ≡ 0 + i → HasReason earlier p claim reason
        → ((m : ℕ) → Shows after m (mirror p) claim → m ≤ steps → m ≤ more → through ls steps m (not turned) ≡ through ls more m (not turned))
        → go_through (Some reason) turned (λ m. through ls steps m (not turned)) ≡ go_through (Some reason) turned (λ m. through ls more m (not turned))
    of_reason (ByMirror m) earlier rest parts before right later =
        let bound = Shows_number earlier m (mirror p) claim right in
        later m (subst (λ k. Shows k m (mirror p) claim) (sym parts) (Shows_more earlier rest m (mirror p) claim right)) (omega (arith, bound.1, before))
        (omega (arith, bound.1, before))
    of_reason ByEnd earlier rest parts before right later = refl
    of_reason (ByOne cite) earlier rest parts before right later = refl
    of_reason (ByAll cites) earlier rest parts before right later = refl
    of_reason (ByPlan ws) earlier rest parts before right later = refl

-- what a mirror image leads to: an earlier lemma, which shows the claim of the image, on the board turned round
pub record LeadsTo (ls : List Lemma) (after : List Shown) (n m : ℕ) (turned : Bool) (p : Position) (claim : Claim) : Type 0 where
  pub lower : m < n
  pub shows : Shows after m (mirror p) claim
  pub same : behind_mirrors ls n turned ≡ behind_mirrors ls m (not turned)

pub through_mirror : (root : Position) (ls : List Lemma) (after : List Shown) (n m : ℕ) (turned : Bool) (p : Position) (claim : Claim)
    → AreRight root [] ls after → Shows after n p claim → reason_at ls n ≡ Some (ByMirror m) → LeadsTo ls after n m turned p claim
through_mirror root ls after zero m turned p claim right shows is = absurd (cc shows)
through_mirror root ls after (suc i) m turned p claim right shows is =
    let proved = proved_at root [] ls after i (suc i) p claim right (omega arith) shows in
    let same : proved.lemma.reason ≡ ByMirror m =
    same_Some proved.lemma.reason (ByMirror m) (sym (ap (λ l. option_map (λ (l : Lemma). l.reason) l) proved.found) ∙ is) in
    let image : Shows proved.earlier m (mirror p) claim = subst (HasReason proved.earlier p claim) same proved.right in
    let bound = Shows_number proved.earlier m (mirror p) claim image in
    let shows : Shows after m (mirror p) claim = subst (λ k. Shows k m (mirror p) claim) (sym proved.parts)
    (Shows_more proved.earlier proved.more m (mirror p) claim image) in
    record {
      lower = omega (arith, bound.1, proved.before);
      shows = shows;
      same = ap (λ reason. go_through reason turned (λ m. through ls i m (not turned))) is
          ∙ through_enough root ls after i m m (not turned) (mirror p) claim right shows (omega (arith, bound.1, proved.before)) (omega arith);
    }

-- a reason that is none of a mirror image is the one at which play stands
pub through_plain : (ls : List Lemma) (n : ℕ) (turned : Bool) (reason : Reason) → reason_at ls n ≡ Some reason → is_plain reason ≡ true
    → behind_mirrors ls n turned ≡ Some (reason, turned)
through_plain ls zero turned reason is plain = absurd (cc is)
through_plain ls (suc i) turned reason is plain =
    ap (λ reason. go_through reason turned (λ m. through ls i m (not turned))) is ∙ of_reason reason plain
  where
    of_reason : (reason : Reason) → is_plain reason ≡ true → go_through (Some reason) turned (λ m. through ls i m (not turned)) ≡ Some (reason, turned)
    of_reason ByEnd plain = refl
    of_reason (ByOne cite) plain = refl
    of_reason (ByAll cites) plain = refl
    of_reason (ByPlan ws) plain = refl
    of_reason (ByMirror m) plain = absurd (cc plain)
