-- The first Specialbefore of nested lists, and why narrower lists have it too.
use Rattle.std.proofs.Common.{◌≡◌, ℕ, ◌+◌, ◌<◌, Bool, true, false, if◌then◌else◌, List, [], ◌∷◌, length, map, filter, drop, get_or, Option, Some, None, is_some}
use Rattle.std.proofs.Common.{refl, sym, ap, ◌∙◌, inl, inr}
use Rattle.std.specs.List.{find}
use Rattle.std.specs.Option.{option_map, option_or}
use Rattle.std.proofs.lemmas.Bool.{cases_Bool, both_ways, false_from_ne_true}
use Rattle.std.proofs.lemmas.List.{at_drop_more}
use Rattle.std.proofs.lemmas.List.Concat.{flat_map-cons}
use Rattle.std.proofs.lemmas.List.Folds.{find-append}
use Rattle.game_rules.specs.Board.{Square}
use Rattle.game_rules.specs.Position.{Position}
use Rattle.plan_rules.specs.Rules.{RuleInstance, Facts}
use Rattle.plan_rules.specs.Listing.{each_with}
use Rattle.plan_rules.proofs.Places.{find_map}
use Rattle.walk_rules.proofs.Fast.{find_within}
use Rattle.rule_chooser.specs.Standing.{does_answer, first_of}

-- ---- a loop that returns what it finds first

some_stays : {S R : Type 0} (view : S → R) (found : Option S) (rest : Option R) → is_some found ≡ true
    → option_or (option_map view found) rest ≡ option_map view found
some_stays view None rest h = absurd (cc h)
some_stays view (Some x) rest h = refl

none_goes : {S R : Type 0} (view : S → R) (found : Option S) (rest : Option R) → is_some found ≡ false → option_or (option_map view found) rest ≡ rest
none_goes view None rest h = refl
none_goes view (Some x) rest h = absurd (cc h)

module _ {X R S : Type 0} (F : List X → Option R) (G : X → Option R) (step : (x : X) (xs : List X) → F (x ∷ xs) ≡ option_or (G x) (F xs))
    (view : S → R) (xs : List X) (i : ℕ) (x : X) (found : Option S) (within : i < length xs) (at : x ≡ get_or xs i x) (same : option_map view found ≡ G x)
    (goes : F (drop i xs) ≡ F xs) where
  step_at : F (drop i xs) ≡ option_or (option_map view found) (F (drop (i + 1) xs))
  step_at =
      at_drop_more F xs i x within ∙ step (get_or xs i x) (drop (i + 1) xs)
      ∙ ap (λ y. option_or (G y) (F (drop (i + 1) xs))) (sym at) ∙ ap (λ o. option_or o (F (drop (i + 1) xs))) (sym same)

  pub found_here : is_some found ≡ true → option_map view found ≡ F xs
  found_here some = sym (some_stays view found (F (drop (i + 1) xs)) some) ∙ sym step_at ∙ goes

  pub found_later : is_some found ≡ false → F (drop (i + 1) xs) ≡ F xs
  found_later none = sym (none_goes view found (F (drop (i + 1) xs)) none) ∙ sym step_at ∙ goes

-- ---- lists

map_or : {A B : Type 0} (f : A → B) (a b : Option A) → option_map f (option_or a b) ≡ option_or (option_map f a) (option_map f b)
map_or f None b = refl
map_or f (Some x) b = refl

map_twice : {A B C : Type 0} (f : B → C) (g : A → B) (a : Option A) → option_map f (option_map g a) ≡ option_map (λ x. f (g x)) a
map_twice f g None = refl
map_twice f g (Some x) = refl

module _ (p : Position) (facts : Facts) (part : Square → Bool) where
  pub first_cons : {X : Type 0} (w : X → RuleInstance) (x : X) (xs : List X)
      → first_of p facts part w (x ∷ xs) ≡ option_or (if does_answer p facts part (w x) then Some (w x) else None) (first_of p facts part w xs)
  first_cons w x xs = elim (cases_Bool (does_answer p facts part (w x))) [ inl passes ↦ rw passes refl | inr fails ↦ rw fails refl ]

  pub first_each : {X Y : Type 0} (w : X × Y → RuleInstance) (ys : List Y) (x : X) (xs : List X)
      → first_of p facts part w (each_with (x ∷ xs) ys) ≡ option_or (first_of p facts part (λ y. w (x, y)) ys) (first_of p facts part w (each_with xs ys))
  first_each {X} {Y} w ys x xs =
      ap (first_of p facts part w) (flat_map-cons (λ x. map (λ y. (x, y)) ys) x xs)
      ∙ ap (option_map w) (find-append passes (map (λ y. (x, y)) ys) (each_with xs ys))
      ∙ map_or w (find passes (map (λ y. (x, y)) ys)) (find passes (each_with xs ys))
      ∙ ap (λ o. option_or (option_map w o) (first_of p facts part w (each_with xs ys))) (find_map passes (λ y. (x, y)) ys)
      ∙ ap (λ o. option_or o (first_of p facts part w (each_with xs ys))) (map_twice w (λ y. (x, y)) (find (λ y. passes (x, y)) ys))
    where
      passes : X × Y → Bool
      passes z = does_answer p facts part (w z)

  none_of : {X : Type 0} (w : X → RuleInstance) (xs : List X) → ((x : X) → does_answer p facts part (w x) ≡ false) → first_of p facts part w xs ≡ None
  none_of w [] none = refl
  none_of w (x ∷ xs) none = rw (none x) (none_of w xs none)

  pub first_within : {X : Type 0} (w : X → RuleInstance) (A : X → Bool) (xs : List X) → ((x : X) → does_answer p facts part (w x) ≡ true → A x ≡ true)
      → first_of p facts part w (filter A xs) ≡ first_of p facts part w xs
  first_within w A xs within = ap (option_map w) (find_within (λ x. does_answer p facts part (w x)) A xs within)

  -- the first of pairs, from narrower lists
  pub first_narrowed : {X Y : Type 0} (w : X × Y → RuleInstance) (A : X → Bool) (B : Y → Bool) (xs : List X) (ys : List Y)
      → ((x : X) (y : Y) → does_answer p facts part (w (x, y)) ≡ true → (A x ≡ true) × (B y ≡ true))
      → first_of p facts part w (each_with (filter A xs) (filter B ys)) ≡ first_of p facts part w (each_with xs ys)
  first_narrowed w A B [] ys within = refl
  first_narrowed w A B (x ∷ xs) ys within = elim (cases_Bool (A x)) [
    | inl kept ↦
        rw kept (
        first_each w (filter B ys) x (filter A xs)
        ∙ ap (λ o. option_or o (first_of p facts part w (each_with (filter A xs) (filter B ys)))) (first_within (λ y. w (x, y)) B ys (λ y h. (within x y h).1))
        ∙ ap (option_or (first_of p facts part (λ y. w (x, y)) ys)) (first_narrowed w A B xs ys within)
        ∙ sym (first_each w ys x xs)
        )
    | inr out ↦
        rw out (
        first_narrowed w A B xs ys within
        ∙ sym (first_each w ys x xs
        ∙ ap (λ o. option_or o (first_of p facts part w (each_with xs ys)))
        (none_of (λ y. w (x, y)) ys (λ y. false_from_ne_true _ (λ h. both_ways (A x) out (within x y h).0))))
        )
  ]

  -- no pair passes
  pub first_none : {X Y : Type 0} (w : X × Y → RuleInstance) (xs : List X) (ys : List Y) → ((x : X) (y : Y) → does_answer p facts part (w (x, y)) ≡ false)
      → None ≡ first_of p facts part w (each_with xs ys)
  first_none w [] ys none = refl
  first_none w (x ∷ xs) ys none =
      first_none w xs ys none
      ∙ sym (first_each w ys x xs ∙ ap (λ o. option_or o (first_of p facts part w (each_with xs ys))) (none_of (λ y. w (x, y)) ys (none x)))

-- ---- one instance

-- what is made where a test passes
pub made_is : {X : Type 0} (b : Bool) (v r : X) → (if b then Some v else None) ≡ Some r → v ≡ r
made_is true v r h = cc h
made_is false v r h = absurd (cc h)

pub chosen_then : {X : Type 0} (test : X → Bool) (v w : X) → v ≡ w → test v ≡ true → Some v ≡ (if test w then Some w else None)
chosen_then test v w same passes = rw (sym same, passes) refl

pub chosen_else : {X : Type 0} (test : X → Bool) (v w : X) → v ≡ w → test v ≡ false → None ≡ (if test w then Some w else None)
chosen_else test v w same fails = rw (sym same, fails) refl
