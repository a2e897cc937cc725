-- What the first line of a text names, and what that decides.
use Rattle.std.proofs.Common.{◌≡◌, ◌⊎◌, ℕ, ◌<◌, ◌≤◌, Bool, true, false, cond, List, ◌∷◌, length, Option, Some, None, refl, sym, ap, ◌∙◌, subst, inl, inr, arith}
use Rattle.std.proofs.lemmas.Slice.Eq.{bytes_eq-Decides}
use Rattle.std.specs.Str.{bytes_eq}
use Rattle.game_rules.specs.Text.{game_at}
use Rattle.proof_text.specs.Texts.{pieces, game_of, behind_game, game_answer, first_line, Refused}
use Rattle.proof_text.specs.declared.Version.{Version}
use Rattle.proof_text.specs.declared.Version.TheVariants.{One, Two}
use Rattle.proof_text.specs.declared.Why.TheVariants.{BadLine}
use Rattle.proof_text.proofs.First.{no_head, with_head, answer_named, unnamed}
use Rattle.run_proof.specs.Whole.{judged, version_named, IsAsked}

-- a version's first line names it, where it is asked for
pub named_first : (asked : Option Version) (first : List ℕ) (version : Version) → version_named asked first ≡ Some version → first ≡ first_line version
named_first (Some asked) first version h = of_eq (bytes_eq first (first_line asked)) refl h
  where
    of_eq : (b : Bool) → bytes_eq first (first_line asked) ≡ b → cond b (Some asked) None ≡ Some version → first ≡ first_line version
    of_eq true e h = let same : asked ≡ version = cc in (bytes_eq-Decides first (first_line asked)).0 e ∙ ap first_line same
    of_eq false e h = cc
named_first None first version h = of_one (bytes_eq first (first_line One)) (bytes_eq first (first_line Two)) refl refl h
  where
    of_one : (a b : Bool) → bytes_eq first (first_line One) ≡ a → bytes_eq first (first_line Two) ≡ b
        → cond a (Some One) (cond b (Some Two) None) ≡ Some version → first ≡ first_line version
    of_one true b d e h = let same : One ≡ version = cc in (bytes_eq-Decides first (first_line One)).0 d ∙ ap first_line same
    of_one false true d e h = let same : Two ≡ version = cc in (bytes_eq-Decides first (first_line Two)).0 e ∙ ap first_line same
    of_one false false d e h = cc

-- the version is the one that is asked for, or either may come
named_asked : (asked : Option Version) (first : List ℕ) (version : Version) → version_named asked first ≡ Some version
    → (asked ≡ None) ⊎ (asked ≡ Some version)
named_asked None first version h = inl refl
named_asked (Some asked) first version h = of_eq (bytes_eq first (first_line asked)) h
  where
    of_eq : (b : Bool) → cond b (Some asked) None ≡ Some version → (Some asked ≡ None) ⊎ (Some asked ≡ Some version)
    of_eq true h = inr h
    of_eq false h = cc

pub named_is_asked : (asked : Option Version) (first : List ℕ) (version : Version) → version_named asked first ≡ Some version → IsAsked asked version
named_is_asked asked first version h = of_asked (named_asked asked first version h)
  where
    of_asked : (asked ≡ None) ⊎ (asked ≡ Some version) → IsAsked asked version
    of_asked (inl e) = subst (λ asked. IsAsked asked version) (sym e) tt
    of_asked (inr e) = subst (λ asked. IsAsked asked version) (sym e) refl

pub named_short : (asked : Option Version) (first : List ℕ) (version : Version) → version_named asked first ≡ Some version → length first ≤ 8
named_short asked first version h = of_version version (named_first asked first version h)
  where
    of_version : (version : Version) → first ≡ first_line version → length first ≤ 8
    of_version One e = omega (arith, ap length e)
    of_version Two e = omega (arith, ap length e)

-- no other line is named
named_none : (asked : Option Version) (first : List ℕ) → ((version : Version) → first ≡ first_line version → ⊥) → version_named asked first ≡ None
named_none asked first other = of_named (version_named asked first) refl
  where
    of_named : (named : Option Version) → version_named asked first ≡ named → version_named asked first ≡ None
    of_named None e = e
    of_named (Some version) e = absurd (other version (named_first asked first version e))

pub long_unnamed : (asked : Option Version) (first : List ℕ) → 8 < length first → version_named asked first ≡ None
long_unnamed asked first long = named_none asked first of_version
  where
    of_version : (version : Version) → first ≡ first_line version → ⊥
    of_version One e = omega (arith, ap length e)
    of_version Two e = omega (arith, ap length e)

-- what a text that names its version is answered with
pub head_answer : (asked : Option Version) (version : Version) (bytes first : List ℕ) (more : List (List ℕ)) → pieces bytes ≡ first ∷ more
    → version_named asked first ≡ Some version → judged asked bytes ≡ game_answer version (game_at (game_of more)) (behind_game more)
head_answer asked version bytes first more cut named =
    let head : pieces bytes ≡ first_line version ∷ more = cut ∙ ap (λ first. first ∷ more) (named_first asked first version named) in
    of_asked (named_asked asked first version named) head
  where
    of_asked : (asked ≡ None) ⊎ (asked ≡ Some version) → pieces bytes ≡ first_line version ∷ more
        → judged asked bytes ≡ game_answer version (game_at (game_of more)) (behind_game more)
    of_asked (inl e) head = ap (λ asked. judged asked bytes) e ∙ answer_named version bytes more head ∙ with_head version bytes more head
    of_asked (inr e) head = ap (λ asked. judged asked bytes) e ∙ with_head version bytes more head

-- and one that names none that is asked for
pub head_none : (asked : Option Version) (bytes first : List ℕ) (more : List (List ℕ)) → pieces bytes ≡ first ∷ more → version_named asked first ≡ None
    → judged asked bytes ≡ Refused 1 BadLine
head_none (Some version) bytes first more cut none = no_head version bytes first more cut (other (bytes_eq first (first_line version)) refl none)
  where
    other : (b : Bool) → bytes_eq first (first_line version) ≡ b → cond b (Some version) None ≡ None → first ≡ first_line version → ⊥
    other true e h same = cc
    other false e h same = cc (e, (bytes_eq-Decides first (first_line version)).1 same)
head_none None bytes first more cut none =
    unnamed bytes first more cut (λ same. one (bytes_eq first (first_line One)) (bytes_eq first (first_line Two)) refl none same)
    (λ same. two (bytes_eq first (first_line One)) (bytes_eq first (first_line Two)) refl none same)
  where
    one : (a b : Bool) → bytes_eq first (first_line One) ≡ a → cond a (Some One) (cond b (Some Two) None) ≡ None → first ≡ first_line One → ⊥
    one true b e h same = cc
    one false b e h same = cc (e, (bytes_eq-Decides first (first_line One)).1 same)

    two : (a b : Bool) → bytes_eq first (first_line Two) ≡ b → cond a (Some One) (cond b (Some Two) None) ≡ None → first ≡ first_line Two → ⊥
    two true b e h same = cc
    two false true e h same = cc
    two false false e h same = cc (e, (bytes_eq-Decides first (first_line Two)).1 same)
