-- Lists made by a test or a function, where another test or function agrees with it, and each two members of a list.
use Rattle.std.proofs.Common.{◌≡◌, ◌<◌, Bool, true, false, ◌&&◌, List, [], ◌∷◌, ◌++◌, length, filter, refl, sym, ap, ◌∙◌, inl, inr, arith, Some}
use Rattle.std.specs.List.{list_all, flat_map, find}
use Rattle.std.proofs.lemmas.Bool.{cases_Bool}
use Rattle.std.proofs.lemmas.List.Concat.{flat_map-cons}
use Rattle.std.proofs.lemmas.List.Folds.{list_all-append}
use Rattle.game_rules.proofs.Lists.{Among, filter_fewer}
use Rattle.plan_rules.specs.Rules.{RuleInstance}
use Rattle.plan_rules.specs.Plan.{each_two}

-- functions that agree on a list's elements
pub flat_map_same : {X Y : Type 0} (f g : X → List Y) (xs : List X) → ((x : X) → Among x xs → f x ≡ g x) → flat_map f xs ≡ flat_map g xs
flat_map_same f g [] same = refl
flat_map_same f g (x ∷ xs) same =
    flat_map-cons f x xs ∙ ap (λ ys. ys ++ flat_map f xs) (same x (inl refl)) ∙ ap (λ ys. g x ++ ys) (flat_map_same f g xs (λ y among. same y (inr among)))
    ∙ sym (flat_map-cons g x xs)

-- a test that no element passes
pub filter_none : {X : Type 0} (p : X → Bool) (xs : List X) → ((x : X) → p x ≡ false) → filter p xs ≡ []
filter_none p [] none = refl
filter_none p (x ∷ xs) none = rw (none x) (filter_none p xs none)

-- fewer pass a stronger test that fails at one more element
pub filter_less : {X : Type 0} (p q : X → Bool) (xs : List X) (a : X) → ((x : X) → p x ≡ true → q x ≡ true) → Among a xs → p a ≡ false → q a ≡ true
    → length (filter p xs) < length (filter q xs)
filter_less p q [] a weaker among fails passes = absurd among
filter_less p q (x ∷ xs) a weaker (inl same) fails passes =
    rw (ap p same ∙ fails, ap q same ∙ passes) (let rest = filter_fewer p q xs weaker in omega (arith, rest))
filter_less p q (x ∷ xs) a weaker (inr later) fails passes = elim (cases_Bool (p x)) [
  | inl strong ↦ rw (strong, weaker x strong) (let rest = filter_less p q xs a weaker later fails passes in omega (arith, rest))
  | inr not_strong ↦ elim (cases_Bool (q x)) [
    | inl weak ↦ rw (not_strong, weak) (let rest = filter_less p q xs a weaker later fails passes in omega (arith, rest))
    | inr none ↦ rw (not_strong, none) (filter_less p q xs a weaker later fails passes)
  ]
]

-- each two of a longer list
pub each_two-append : (test : RuleInstance → RuleInstance → Bool) (vs ws : List RuleInstance)
    → each_two test (vs ++ ws) ≡ (each_two test vs && list_all (λ v. list_all (test v) ws) vs && each_two test ws)
each_two-append test [] ws = refl
each_two-append test (v ∷ vs) ws = rw (list_all-append (test v) vs ws, each_two-append test vs ws)
    (turned (list_all (test v) vs) (list_all (test v) ws) (each_two test vs) (list_all (λ v. list_all (test v) ws) vs) (each_two test ws))
  where
    turned : (a b c d e : Bool) → ((a && b) && (c && d && e)) ≡ ((a && c) && (b && d) && e)
    turned false b c d e = refl
    turned true false c d e = turned_last c e
      where
        turned_last : (c e : Bool) → false ≡ (c && false && e)
        turned_last false e = refl
        turned_last true e = refl
    turned true true c d e = refl

-- functions that give nothing at any element
pub flat_map_none : {X Y : Type 0} (f : X → List Y) (xs : List X) → ((x : X) → Among x xs → f x ≡ []) → flat_map f xs ≡ []
flat_map_none f [] none = refl
flat_map_none f (x ∷ xs) none = flat_map-cons f x xs ∙ ap (λ ys. ys ++ flat_map f xs) (none x (inl refl)) ∙ flat_map_none f xs (λ y among. none y (inr among))

-- what is found is in the list, and passes
pub find_among : {X : Type 0} (test : X → Bool) (xs : List X) (x : X) → find test xs ≡ Some x → Among x xs × (test x ≡ true)
find_among test [] x h = absurd (cc h)
find_among test (y ∷ ys) x h = elim (cases_Bool (test y)) [
  | inl passes ↦ let same : y ≡ x = cc (rw passes at h) in (inl same, sym (ap test same) ∙ passes)
  | inr fails ↦ let rest = find_among test ys x (rw fails at h) in (inr rest.0, rest.1)
]

-- tests that agree on a list's elements
pub all_agree : {X : Type 0} (p q : X → Bool) (xs : List X) → ((x : X) → Among x xs → p x ≡ q x) → list_all p xs ≡ list_all q xs
all_agree p q [] same = refl
all_agree p q (x ∷ xs) same = ap (λ b. b && list_all p xs) (same x (inl refl)) ∙ ap (λ b. q x && b) (all_agree p q xs (λ y among. same y (inr among)))
