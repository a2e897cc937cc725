-- What fits, of a list's elements, one element after the other.
use Rattle.std.proofs.Common.{◌≡◌, ℕ, ◌+◌, ◌<◌, ◌≤◌, Bool, true, false, cond, Option, Some, None, List, [], ◌∷◌, ◌++◌, length, map, filter, take, get_or}
use Rattle.std.proofs.Common.{length-append, refl, sym, ap, ◌∙◌, inl, inr, arith}
use Rattle.std.specs.List.{flat_map}
use Rattle.std.specs.Option.{option_map}
use Rattle.std.proofs.lemmas.Bool.{cases_Bool}
use Rattle.std.proofs.lemmas.List.{flat_map_more, take_more, map-append}
use Rattle.std.proofs.lemmas.List.Elements.{filter-append}
use Rattle.std.proofs.lemmas.List.Concat.{flat_map-cons}
use Rattle.std.proofs.lemmas.List.Folds.{length-flat_map-take}
use Rattle.game_rules.specs.Position.{Position}
use Rattle.plan_rules.specs.Rules.{RuleInstance, fits}
use Rattle.plan_rules.specs.Listing.{fitting, if_fits, each_with}

-- each element adds its own part to what stands there
pub one_more : {X Y : Type 0} (f : X → List Y) (start now : List Y) (xs : List X) (i : ℕ) (x : X) → i < length xs → x ≡ get_or xs i x
    → now ≡ start ++ flat_map f (take i xs) → now ++ f x ≡ start ++ flat_map f (take (i + 1) xs)
one_more f start now xs i x within here so_far =
    ap (λ ys. ys ++ f x) so_far
    ∙ flat_map_more f start (take i xs) x
    ∙ ap (λ ys. start ++ flat_map f ys) (ap (λ u. take i xs ++ u ∷ []) here ∙ sym (take_more xs i x within))

-- and has room for it where there is room for all
pub room_for_one : {X Y : Type 0} (f : X → List Y) (start now : List Y) (xs : List X) (i : ℕ) (x : X) (room : ℕ) → i < length xs → x ≡ get_or xs i x
    → now ≡ start ++ flat_map f (take i xs) → length start + length (flat_map f xs) ≤ room → length now + length (f x) ≤ room
room_for_one f start now xs i x room within here so_far enough =
    let part = length-flat_map-take f xs i x within in
    omega (arith, part, ap (λ u. length (f u)) here, ap length so_far, length-append start (flat_map f (take i xs)), enough)

-- what fits is what each element adds
pub fitting_parts : {X : Type 0} (written : X → RuleInstance) (p : Position) (xs : List X) → fitting written p xs ≡ flat_map (λ x. if_fits p (written x)) xs
fitting_parts written p [] = refl
fitting_parts written p (x ∷ xs) = elim (cases_Bool (fits (written x) p)) [
  | inl good ↦ rw (flat_map-cons, good) (ap (λ ws. written x ∷ ws) (fitting_parts written p xs))
  | inr bad ↦ rw (flat_map-cons, bad) (fitting_parts written p xs)
]

pub fitting-append : {X : Type 0} (written : X → RuleInstance) (p : Position) (xs ys : List X)
    → fitting written p (xs ++ ys) ≡ fitting written p xs ++ fitting written p ys
fitting-append written p xs ys = ap (filter (λ w. fits w p)) (map-append written xs ys) ∙ filter-append (λ w. fits w p) (map written xs) (map written ys)

fitting-map : {X Y : Type 0} (written : Y → RuleInstance) (f : X → Y) (p : Position) (xs : List X)
    → fitting written p (map f xs) ≡ fitting (λ x. written (f x)) p xs
fitting-map written f p [] = refl
fitting-map written f p (x ∷ xs) = elim (cases_Bool (fits (written (f x)) p)) [
  | inl good ↦ rw good (ap (λ ws. written (f x) ∷ ws) (fitting-map written f p xs))
  | inr bad ↦ rw bad (fitting-map written f p xs)
]

-- of pairs, what each first element adds with all second ones
pub fitting_pairs : {X Y : Type 0} (written : X × Y → RuleInstance) (p : Position) (xs : List X) (ys : List Y)
    → fitting written p (each_with xs ys) ≡ flat_map (λ x. fitting (λ y. written (x, y)) p ys) xs
fitting_pairs written p [] ys = refl
fitting_pairs written p (x ∷ xs) ys =
    rw (flat_map-cons, flat_map-cons) (
    fitting-append written p (map (λ y. (x, y)) ys) (each_with xs ys)
    ∙ ap (λ ws. ws ++ fitting written p (each_with xs ys)) (fitting-map written (λ y. (x, y)) p ys)
    ∙ ap (λ ws. fitting (λ y. written (x, y)) p ys ++ ws) (fitting_pairs written p xs ys))

-- nothing fits where nothing was made
pub none_fits : (p : Position) (w : RuleInstance) → None ≡ cond {A = Option RuleInstance} (fits w p) (Some w) None → if_fits p w ≡ []
none_fits p w h = elim (cases_Bool (fits w p)) [
  | inl good ↦ absurd (cc (rw good at h))
  | inr bad ↦ rw bad refl
]

-- what a constructor makes, where a fit comes down to the shape
pub made_as : {V : Type 0} (view : V → RuleInstance) (made : Option V) (v : V) (shaped good : Bool) → made ≡ cond {A = Option V} shaped (Some v) None
    → good ≡ shaped
    → option_map view made ≡ cond {A = Option RuleInstance} good (Some (view v)) None
made_as view made v true good is same = ap (option_map view) is ∙ sym (ap (λ b. cond {A = Option RuleInstance} b (Some (view v)) None) same)
made_as view made v false good is same = ap (option_map view) is ∙ sym (ap (λ b. cond {A = Option RuleInstance} b (Some (view v)) None) same)

-- one instance where it fits, and none where it doesn't
pub some_fits : (w : RuleInstance) (good : Bool) → good ≡ true → Some w ≡ cond {A = Option RuleInstance} good (Some w) None
some_fits w good h = sym (ap (λ b. cond {A = Option RuleInstance} b (Some w) None) h)

pub none_unfit : (w : RuleInstance) (good : Bool) → good ≡ false → None ≡ cond {A = Option RuleInstance} good (Some w) None
none_unfit w good h = sym (ap (λ b. cond {A = Option RuleInstance} b (Some w) None) h)
