-- First places, the least two and the first of an ordered list, in words.
use Rattle.std.proofs.Common.{◌≡◌, ◌⊎◌, ℕ, zero, suc, ◌+◌, ◌<◌, Bool, true, false, not, List, [], ◌∷◌, Option, Some, None, refl, sym, ap, ◌∙◌, subst, inl, inr}
use Rattle.std.proofs.Common.{arith}
use Rattle.std.specs.List.{slice_get, find, position_from}
use Rattle.std.specs.Option.{option_map, option_or}
use Rattle.std.proofs.lemmas.Bool.{cases_Bool, both_ways, cond-true, cond-false, not-true, not-false, not_from_true, not_from_false}
use Rattle.std.proofs.lemmas.Option.{same_Some}
use Rattle.game_rules.proofs.Groups.{Ordered}
use Rattle.game_rules.proofs.Lists.{Among, any_from}
use Rattle.plan_rules.specs.Zones.{first_two_from, IsFirstAt, IsLeastTwo}
use Rattle.plan_rules.proofs.Squares.{find_one}

-- ---- the first place

pub place_gives : {X : Type 0} (test : X → Bool) (n : ℕ) (xs : List X) (place : ℕ) → position_from test n xs ≡ Some place → IsFirstAt test n xs place
place_gives test n [] place h = absurd (cc h)
place_gives test n (x ∷ xs) place h = elim (cases_Bool (test x)) [
  | inl passes ↦
      let here : n ≡ place = cc (rw passes at h) in
      record { index = 0; counted = omega arith; element = x; at = refl; passes = passes; earlier = λ i y less. absurd (omega arith) }
  | inr fails ↦
      let later = place_gives test (n + 1) xs place (rw fails at h) in
      record {
        index = suc later.index;
        counted = omega (arith, later.counted);
        element = later.element;
        at = later.at;
        passes = later.passes;
        earlier =
            before fails later.index later.earlier;
      }
]
  where
    before : test x ≡ false → (index : ℕ) → ((i : ℕ) (y : _) → i < index → slice_get xs i ≡ Some y → test y ≡ false) → (i : ℕ) (y : _) → i < suc index
        → slice_get (x ∷ xs) i ≡ Some y → test y ≡ false
    before fails index earlier zero y less at = let same : x ≡ y = cc at in sym (ap test same) ∙ fails
    before fails index earlier (suc i) y less at = earlier i y (omega arith) at

-- none is found exactly where none passes
pub none_at : {X : Type 0} (test : X → Bool) (n : ℕ) (xs : List X) → position_from test n xs ≡ None → (i : ℕ) (x : X) → slice_get xs i ≡ Some x → test x ≡ false
none_at test n [] h i x at = absurd (cc at)
none_at test n (y ∷ xs) h i x at = elim (cases_Bool (test y)) [
  | inl passes ↦ absurd (cc (rw passes at h))
  | inr fails ↦ by_index i at fails (none_at test (n + 1) xs (rw fails at h))
]
  where
    by_index : (i : ℕ) → slice_get (y ∷ xs) i ≡ Some x → test y ≡ false → ((i : ℕ) (x : _) → slice_get xs i ≡ Some x → test x ≡ false) → test x ≡ false
    by_index zero at fails later = let same : y ≡ x = cc at in sym (ap test same) ∙ fails
    by_index (suc i) at fails later = later i x at

pub place_none : {X : Type 0} (test : X → Bool) (n : ℕ) (xs : List X) → ((i : ℕ) (x : X) → slice_get xs i ≡ Some x → test x ≡ false)
    → position_from test n xs ≡ None
place_none test n [] none = refl
place_none test n (x ∷ xs) none = cond-false (test x) (Some n) (position_from test (n + 1) xs) (none 0 x refl)
    ∙ place_none test (n + 1) xs (λ i y at. none (suc i) y at)

place_at : {X : Type 0} (test : X → Bool) (n : ℕ) (xs : List X) (index : ℕ) (element : X) → slice_get xs index ≡ Some element → test element ≡ true
    → ((i : ℕ) (x : X) → i < index → slice_get xs i ≡ Some x → test x ≡ false) → position_from test n xs ≡ Some (n + index)
place_at test n [] index element at passes earlier = absurd (cc at)
place_at test n (x ∷ xs) zero element at passes earlier =
    let same : x ≡ element = cc at in
    cond-true (test x) (Some n) (position_from test (n + 1) xs) (ap test same ∙ passes) ∙ ap (λ k. Some k) (omega arith)
place_at test n (x ∷ xs) (suc index) element at passes earlier =
    cond-false (test x) (Some n) (position_from test (n + 1) xs) (earlier 0 x (omega arith) refl)
    ∙ place_at test (n + 1) xs index element at passes (λ i y less found. earlier (suc i) y (omega arith) found)
    ∙ ap (λ k. Some k) (omega arith)

pub place_from : {X : Type 0} (test : X → Bool) (n : ℕ) (xs : List X) (place : ℕ) → IsFirstAt test n xs place → position_from test n xs ≡ Some place
place_from test n xs place first = place_at test n xs first.index first.element first.at first.passes first.earlier ∙ ap (λ k. Some k) (sym first.counted)

-- ---- the least two

-- two among the rest are two behind the first element, where that fails with none
two_behind : {X : Type 0} (test : X → X → Bool) (n : ℕ) (x : X) (xs : List X) (first second : ℕ) → ((j : ℕ) (y : X) → slice_get xs j ≡ Some y → test x y ≡ true)
    → IsLeastTwo test (n + 1) xs first second → IsLeastTwo test n (x ∷ xs) first second
two_behind {X} test n x xs first second stands two = record {
  left = suc two.left;
  right = suc two.right;
  first_counted = omega (arith, two.first_counted);
  second_counted = omega (arith, two.second_counted);
  order = omega (arith, two.order);
  left_element = two.left_element;
  right_element = two.right_element;
  at_left = two.at_left;
  at_right = two.at_right;
  fails = two.fails;
  earlier = earlier;
}
  where
    earlier : (i j : ℕ) (y z : X) → i < j → (i < suc two.left) ⊎ ((i ≡ suc two.left) × (j < suc two.right)) → slice_get (x ∷ xs) i ≡ Some y
        → slice_get (x ∷ xs) j ≡ Some z → test y z ≡ true
    earlier i zero y z order less at_i at_j = absurd (omega arith)
    earlier zero (suc j) y z order less at_i at_j = let same : x ≡ y = cc at_i in subst (λ y. test y z ≡ true) same (stands j z at_j)
    earlier (suc i) (suc j) y z order less at_i at_j = two.earlier i j y z (omega arith)
        (elim less [ inl under ↦ inl (omega arith) | inr level ↦ inr (omega (arith, level.0), omega (arith, level.1)) ]) at_i at_j

-- the first element and the first that it fails with
two_here : {X : Type 0} (test : X → X → Bool) (n : ℕ) (x : X) (xs : List X) (second : ℕ) → IsFirstAt (λ y. not (test x y)) (n + 1) xs second
    → IsLeastTwo test n (x ∷ xs) n second
two_here {X} test n x xs second place = record {
  left = 0;
  right = suc place.index;
  first_counted = omega arith;
  second_counted = omega (arith, place.counted);
  order = omega arith;
  left_element = x;
  right_element = place.element;
  at_left = refl;
  at_right = place.at;
  fails = not-true (test x place.element) place.passes;
  earlier = earlier;
}
  where
    earlier : (i j : ℕ) (y z : X) → i < j → (i < 0) ⊎ ((i ≡ 0) × (j < suc place.index)) → slice_get (x ∷ xs) i ≡ Some y → slice_get (x ∷ xs) j ≡ Some z
        → test y z ≡ true
    earlier i zero y z order less at_i at_j = absurd (omega arith)
    earlier zero (suc j) y z order less at_i at_j =
        let same : x ≡ y = cc at_i in
        let before : j < place.index = elim less [ inl under ↦ absurd (omega arith) | inr level ↦ omega (arith, level.1) ] in
        subst (λ y. test y z ≡ true) same (not-false (test x z) (place.earlier j z before at_j))
    earlier (suc i) (suc j) y z order less at_i at_j = absurd (elim less [ inl under ↦ omega arith | inr level ↦ omega (arith, level.0) ])

pub two_gives : {X : Type 0} (test : X → X → Bool) (n : ℕ) (xs : List X) (first second : ℕ) → first_two_from test n xs ≡ Some (first, second)
    → IsLeastTwo test n xs first second
two_gives test n [] first second h = absurd (cc h)
two_gives test n (x ∷ xs) first second h = by_place (position_from (λ y. not (test x y)) (n + 1) xs) refl h
    (λ later. two_gives test (n + 1) xs first second later)
  where
    by_place : (place : Option ℕ) → position_from (λ y. not (test x y)) (n + 1) xs ≡ place
        → option_or (option_map (λ j. (n, j)) place) (first_two_from test (n + 1) xs) ≡ Some (first, second)
        → (first_two_from test (n + 1) xs ≡ Some (first, second) → IsLeastTwo test (n + 1) xs first second) → IsLeastTwo test n (x ∷ xs) first second
    by_place (Some j) found h later =
        let both = same_Some (n, j) (first, second) h in
        let here : n ≡ first = ap (λ pair. pair.0) both in
        let there : j ≡ second = ap (λ pair. pair.1) both in
        subst (λ k. IsLeastTwo test n (x ∷ xs) k second) here
        (two_here test n x xs second (place_gives (λ y. not (test x y)) (n + 1) xs second (found ∙ ap (λ k. Some k) there)))
    by_place None none h later = two_behind test n x xs first second (λ j y at. not-false (test x y) (none_at (λ y. not (test x y)) (n + 1) xs none j y at))
        (later h)

same_two : (a b c d : ℕ) → a ≡ c → b ≡ d → ◌≡◌ {A = Option (ℕ × ℕ)} (Some (a, b)) (Some (c, d))
same_two a b c d first second = let pair : ℕ → ℕ → Option (ℕ × ℕ) = λ x y. Some (x, y) in ap (λ x. pair x b) first ∙ ap (pair c) second

two_at : {X : Type 0} (test : X → X → Bool) (n : ℕ) (xs : List X) (left right : ℕ) (x y : X) → left < right → slice_get xs left ≡ Some x
    → slice_get xs right ≡ Some y → test x y ≡ false
    → ((i j : ℕ) (v w : X) → i < j → (i < left) ⊎ ((i ≡ left) × (j < right)) → slice_get xs i ≡ Some v → slice_get xs j ≡ Some w → test v w ≡ true)
    → first_two_from test n xs ≡ Some (n + left, n + right)
two_at test n [] left right x y order at_x at_y fails earlier = absurd (cc at_x)
two_at test n (z ∷ xs) left zero x y order at_x at_y fails earlier = absurd (omega arith)
two_at test n (z ∷ xs) zero (suc right) x y order at_x at_y fails earlier =
    let same : z ≡ x = cc at_x in
    let place = place_at (λ w. not (test z w)) (n + 1) xs right y at_y (not_from_false (test z y) (subst (λ v. test v y ≡ false) (sym same) fails))
    (λ i w less at. not_from_true (test z w) (earlier 0 (suc i) z w (omega arith) (inr (refl, omega arith)) refl at)) in
    ap (λ found. option_or (option_map (λ j. (n, j)) found) (first_two_from test (n + 1) xs)) place
    ∙ same_two n (n + 1 + right) (n + 0) (n + suc right) (omega arith) (omega arith)
two_at test n (z ∷ xs) (suc left) (suc right) x y order at_x at_y fails earlier =
    let none = place_none (λ w. not (test z w)) (n + 1) xs
    (λ i w at. not_from_true (test z w) (earlier 0 (suc i) z w (omega arith) (inl (omega arith)) refl at)) in
    ap (λ found. option_or (option_map (λ j. (n, j)) found) (first_two_from test (n + 1) xs)) none
    ∙ two_at test (n + 1) xs left right x y (omega arith) at_x at_y fails
    (λ i j v w less before at_v at_w. earlier (suc i) (suc j) v w (omega arith) (moved i j before) at_v at_w)
    ∙ same_two (n + 1 + left) (n + 1 + right) (n + suc left) (n + suc right) (omega arith) (omega arith)
  where
    moved : (i j : ℕ) → (i < left) ⊎ ((i ≡ left) × (j < right)) → (suc i < suc left) ⊎ ((suc i ≡ suc left) × (suc j < suc right))
    moved i j (inl under) = inl (omega arith)
    moved i j (inr level) = inr (ap suc level.0, omega (arith, level.1))

pub two_from : {X : Type 0} (test : X → X → Bool) (n : ℕ) (xs : List X) (first second : ℕ) → IsLeastTwo test n xs first second
    → first_two_from test n xs ≡ Some (first, second)
two_from test n xs first second two =
    two_at test n xs two.left two.right two.left_element two.right_element two.order two.at_left two.at_right two.fails two.earlier
    ∙ same_two (n + two.left) (n + two.right) first second (sym two.first_counted) (sym two.second_counted)

-- ---- the first of a list in order

-- what is found passes, and stands before each other element that passes
pub find_gives : {X : Type 0} (R : X → X → Type 0) (test : X → Bool) (xs : List X) (x : X) → Ordered R xs → find test xs ≡ Some x
    → Among x xs × (test x ≡ true) × ((y : X) → Among y xs → test y ≡ true → (x ≡ y) ⊎ R x y)
find_gives R test [] x order h = absurd (cc h)
find_gives R test (z ∷ xs) x order h = elim (cases_Bool (test z)) [
  | inl passes ↦ let same : z ≡ x = cc (rw passes at h) in
      subst (λ x. Among x (z ∷ xs) × (test x ≡ true) × ((y : _) → Among y (z ∷ xs) → test y ≡ true → (x ≡ y) ⊎ R x y)) same (inl refl, passes, here order.0)
  | inr fails ↦ let rest = find_gives R test xs x order.1 (rw fails at h) in (inr rest.0, rest.1, later fails rest.2)
]
  where
    here : ((y : _) → Among y xs → R z y) → (y : _) → Among y (z ∷ xs) → test y ≡ true → (z ≡ y) ⊎ R z y
    here before y (inl same) passes = inl same
    here before y (inr more) passes = inr (before y more)

    later : test z ≡ false → ((y : _) → Among y xs → test y ≡ true → (x ≡ y) ⊎ R x y) → (y : _) → Among y (z ∷ xs) → test y ≡ true → (x ≡ y) ⊎ R x y
    later fails rest y (inl same) passes = absurd (both_ways (test y) (sym (ap test same) ∙ fails) passes)
    later fails rest y (inr more) passes = rest y more passes

pub find_from : {X : Type 0} (R : X → X → Type 0) (test : X → Bool) (xs : List X) (x : X) → Ordered R xs → ((y z : X) → R y z → R z y → ⊥) → Among x xs
    → test x ≡ true
    → ((y : X) → Among y xs → test y ≡ true → (x ≡ y) ⊎ R x y) → find test xs ≡ Some x
find_from {X} R test xs x order one_way among passes first = same_one found.1 found.4
  where
    found : (i : ℕ) × (y : X) × (slice_get xs i ≡ Some y) × (test y ≡ true) × (find test xs ≡ Some y)
    found = find_one test xs (any_from test xs x among passes)

    same_one : (y : X) → find test xs ≡ Some y → find test xs ≡ Some x
    same_one y h =
        let is = find_gives R test xs y order h in
        elim (first y is.0 is.1) [
          | inl same ↦ h ∙ ap (λ z. Some z) (sym same)
          | inr before ↦ elim (is.2 x among passes) [
            | inl same ↦ h ∙ ap (λ z. Some z) same
            | inr after ↦ absurd (one_way x y before after)
          ]
        ]
