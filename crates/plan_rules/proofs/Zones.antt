-- The zones of a list: what only an element with a zone can pass is found among the zones alone, and how the zones of
-- longer and of other lists are made of them.
use Rattle.std.proofs.Common.{◌≡◌, ℕ, suc, ◌+◌, ◌≤◌, Bool, true, false, not, ◌||◌, cond, List, [], ◌∷◌, ◌++◌, length, map, filter, refl, ap, ◌∙◌, inl, inr}
use Rattle.std.proofs.Common.{arith}
use Rattle.std.specs.List.{list_any, find, enumerate_from, position_from}
use Rattle.std.specs.Option.{option_map}
use Rattle.std.proofs.lemmas.Bool.{cases_Bool, not-false, not_from_true, false_from_ne_true, or_left, or_right}
use Rattle.std.proofs.lemmas.List.Elements.{filter-append}
use Rattle.std.proofs.lemmas.List.Sums.{length-filter, count_by-le-length}
use Rattle.game_rules.specs.Board.{Square}
use Rattle.game_rules.specs.Squares.{has_square}
use Rattle.plan_rules.specs.Rules.{RuleInstance, zone_of, owns_no_zone, together}
use Rattle.plan_rules.specs.Zones.{owns_zone, zones_from}
use Rattle.plan_rules.proofs.Table.{zoneless_owns_none}

-- ---- what is found among the zones

-- no element without a zone passes
abbrev pub ZonesAlone : {X : Type 0} → (X → Bool) → (X → Bool) → Type 0
ZonesAlone {X} owns test = (x : X) → owns x ≡ false → test x ≡ false

pub first_zone : {X : Type 0} (owns test : X → Bool) (n : ℕ) (xs : List X) → ZonesAlone owns test
    → position_from test n xs ≡ option_map (λ zone. zone.0) (find (λ zone. test zone.1) (zones_from owns n xs))
first_zone owns test n [] alone = refl
first_zone owns test n (x ∷ xs) alone = elim (cases_Bool (owns x)) [
  | inl zone ↦ elim (cases_Bool (test x)) [
    | inl passes ↦ rw (zone, passes) refl
    | inr fails ↦ rw (zone, fails) (first_zone owns test (n + 1) xs alone)
  ]
  | inr none ↦ rw (none, alone x none) (first_zone owns test (n + 1) xs alone)
]

pub owner_of_zone : {X : Type 0} (owns test : X → Bool) (n : ℕ) (xs : List X) → ZonesAlone owns test
    → find test xs ≡ option_map (λ zone. zone.1) (find (λ zone. test zone.1) (zones_from owns n xs))
owner_of_zone owns test n [] alone = refl
owner_of_zone owns test n (x ∷ xs) alone = elim (cases_Bool (owns x)) [
  | inl zone ↦ elim (cases_Bool (test x)) [
    | inl passes ↦ rw (zone, passes) refl
    | inr fails ↦ rw (zone, fails) (owner_of_zone owns test (n + 1) xs alone)
  ]
  | inr none ↦ rw (none, alone x none) (owner_of_zone owns test (n + 1) xs alone)
]

pub any_of_zone : {X : Type 0} (owns test : X → Bool) (n : ℕ) (xs : List X) → ZonesAlone owns test
    → list_any test xs ≡ list_any (λ zone. test zone.1) (zones_from owns n xs)
any_of_zone owns test n [] alone = refl
any_of_zone owns test n (x ∷ xs) alone = elim (cases_Bool (owns x)) [
  | inl zone ↦ rw zone (ap (λ b. test x || b) (any_of_zone owns test (n + 1) xs alone))
  | inr none ↦ rw (none, alone x none) (any_of_zone owns test (n + 1) xs alone)
]

-- ---- standing members

standing_owns_none : (w : RuleInstance) (u : Square) → owns_zone w ≡ false → has_square (zone_of w) u ≡ false
standing_owns_none w u standing = false_from_ne_true _ (zoneless_owns_none w (not-false (owns_no_zone w) standing) u)

-- a standing member owns no square
pub owner_alone : (u : Square) → ZonesAlone owns_zone (λ w. has_square (zone_of w) u)
owner_alone u w standing = standing_owns_none w u standing

-- and stands with every other, before it or behind it
pub clash_alone : (w : RuleInstance) → ZonesAlone owns_zone (λ v. not (together v w))
clash_alone w v standing = not_from_true (together v w) (or_left _ _ (or_left _ _ (not-false (owns_no_zone v) standing)))

pub stands_with_all : (v w : RuleInstance) → owns_zone w ≡ false → together v w ≡ true
stands_with_all v w standing = or_left _ _ (or_right (owns_no_zone v) (owns_no_zone w) (not-false (owns_no_zone w) standing))

-- ---- the zones of other lists

enumerate_append : {X : Type 0} (n : ℕ) (xs ys : List X) → enumerate_from n (xs ++ ys) ≡ enumerate_from n xs ++ enumerate_from (n + length xs) ys
enumerate_append n [] ys = ap (λ k. enumerate_from k ys) (omega arith)
enumerate_append n (x ∷ xs) ys =
    ap (λ rest. (n, x) ∷ rest) (enumerate_append (n + 1) xs ys ∙ ap (λ k. enumerate_from (n + 1) xs ++ enumerate_from k ys) (omega arith))

pub zones_append : {X : Type 0} (owns : X → Bool) (n : ℕ) (xs ys : List X)
    → zones_from owns n (xs ++ ys) ≡ zones_from owns n xs ++ zones_from owns (n + length xs) ys
zones_append owns n xs ys =
    ap (filter (λ zone. owns zone.1)) (enumerate_append n xs ys)
    ∙ filter-append (λ zone. owns zone.1) (enumerate_from n xs) (enumerate_from (n + length xs) ys)

-- one element more
pub zones_more : {X : Type 0} (owns : X → Bool) (n : ℕ) (xs : List X) (x : X)
    → zones_from owns n (xs ++ x ∷ []) ≡ zones_from owns n xs ++ cond (owns x) ((n + length xs, x) ∷ []) []
zones_more owns n xs x = zones_append owns n xs (x ∷ [])

-- of elements that stand for others
pub zones_map : {X Y : Type 0} (owns : Y → Bool) (f : X → Y) (n : ℕ) (xs : List X)
    → zones_from owns n (map f xs) ≡ map (λ zone. (zone.0, f zone.1)) (zones_from (λ x. owns (f x)) n xs)
zones_map owns f n [] = refl
zones_map owns f n (x ∷ xs) = elim (cases_Bool (owns (f x))) [
  | inl zone ↦ rw zone (ap (λ rest. (n, f x) ∷ rest) (zones_map owns f (n + 1) xs))
  | inr none ↦ rw none (zones_map owns f (n + 1) xs)
]

-- as many as the elements that own one, and so no more than there are elements
pub zones_counted : {X : Type 0} (owns : X → Bool) (n : ℕ) (xs : List X) → length (zones_from owns n xs) ≡ length (filter owns xs)
zones_counted owns n [] = refl
zones_counted owns n (x ∷ xs) = elim (cases_Bool (owns x)) [
  | inl zone ↦ rw zone (ap suc (zones_counted owns (n + 1) xs))
  | inr none ↦ rw none (zones_counted owns (n + 1) xs)
]

pub zones_fewer : {X : Type 0} (owns : X → Bool) (n : ℕ) (xs : List X) → length (zones_from owns n xs) ≤ length xs
zones_fewer owns n xs = let counted = zones_counted owns n xs in omega (arith, counted, length-filter owns xs, count_by-le-length owns xs)
