-- First places: of an element that passes a test, and of two that fail a test of two. Places are counted from a number
-- that is given.
use Rattle.std.proofs.Common.{◌≡◌, ℕ, ◌+◌, ◌<◌, ◌≤◌, Bool, true, false, not, cond, List, [], ◌∷◌, ◌++◌, length, map, get_or, take, drop, Option, Some, None}
use Rattle.std.proofs.Common.{refl, sym, ap, ◌∙◌, inl, inr, arith}
use Rattle.std.specs.List.{slice_get, find, position_from}
use Rattle.std.specs.Option.{option_map, option_or}
use Rattle.std.proofs.lemmas.Bool.{cases_Bool, lt-ltb, le-ltb, cond-true, cond-false}
use Rattle.std.proofs.lemmas.List.{at_drop_more, take-append-drop, length-take, length-drop}
use Rattle.std.proofs.lemmas.Option.{slice_get_within, get_or_from_slice_get, same_Some}
use Rattle.plan_rules.specs.Zones.{first_two_from, lesser_two}

-- ---- along a list: from the element at a place on, it passes, or the search goes on behind it

pub place_here : {X : Type 0} (test : X → Bool) (n : ℕ) (xs : List X) (i : ℕ) (x : X) → slice_get xs i ≡ Some x → test x ≡ true
    → position_from test n (drop i xs) ≡ Some n
place_here test n xs i x at passes =
    at_drop_more (position_from test n) xs i x (slice_get_within xs i x at)
    ∙ cond-true (test (get_or xs i x)) (Some n) (position_from test (n + 1) (drop (i + 1) xs)) (ap test (get_or_from_slice_get xs i x x at) ∙ passes)

pub place_next : {X : Type 0} (test : X → Bool) (n : ℕ) (xs : List X) (i : ℕ) (x : X) → slice_get xs i ≡ Some x → test x ≡ false
    → position_from test n (drop i xs) ≡ position_from test (n + 1) (drop (i + 1) xs)
place_next test n xs i x at fails =
    at_drop_more (position_from test n) xs i x (slice_get_within xs i x at)
    ∙ cond-false (test (get_or xs i x)) (Some n) (position_from test (n + 1) (drop (i + 1) xs)) (ap test (get_or_from_slice_get xs i x x at) ∙ fails)

pub find_here : {X : Type 0} (test : X → Bool) (xs : List X) (i : ℕ) (x : X) → slice_get xs i ≡ Some x → test x ≡ true → find test (drop i xs) ≡ Some x
find_here test xs i x at passes =
    let same = get_or_from_slice_get xs i x x at in
    at_drop_more (find test) xs i x (slice_get_within xs i x at)
    ∙ cond-true (test (get_or xs i x)) (Some (get_or xs i x)) (find test (drop (i + 1) xs)) (ap test same ∙ passes)
    ∙ ap (λ y. Some y) same

pub find_next : {X : Type 0} (test : X → Bool) (xs : List X) (i : ℕ) (x : X) → slice_get xs i ≡ Some x → test x ≡ false
    → find test (drop i xs) ≡ find test (drop (i + 1) xs)
find_next test xs i x at fails =
    at_drop_more (find test) xs i x (slice_get_within xs i x at)
    ∙ cond-false (test (get_or xs i x)) (Some (get_or xs i x)) (find test (drop (i + 1) xs)) (ap test (get_or_from_slice_get xs i x x at) ∙ fails)

-- ---- of elements that stand for others

pub place_map : {X Y : Type 0} (test : Y → Bool) (f : X → Y) (n : ℕ) (xs : List X) → position_from test n (map f xs) ≡ position_from (λ x. test (f x)) n xs
place_map test f n [] = refl
place_map test f n (x ∷ xs) = ap (λ later. cond (test (f x)) (Some n) later) (place_map test f (n + 1) xs)

pub find_map : {X Y : Type 0} (test : Y → Bool) (f : X → Y) (xs : List X) → find test (map f xs) ≡ option_map f (find (λ x. test (f x)) xs)
find_map test f [] = refl
find_map test f (x ∷ xs) = elim (cases_Bool (test (f x))) [
  | inl passes ↦ rw passes refl
  | inr fails ↦ rw fails (find_map test f xs)
]

pub two_map : {X Y : Type 0} (test : Y → Y → Bool) (f : X → Y) (n : ℕ) (xs : List X)
    → first_two_from test n (map f xs) ≡ first_two_from (λ x y. test (f x) (f y)) n xs
two_map test f n [] = refl
two_map test f n (x ∷ xs) =
    ap (λ place. option_or (option_map (λ j. (n, j)) place) (first_two_from test (n + 1) (map f xs))) (place_map (λ y. not (test (f x) y)) f (n + 1) xs)
    ∙ ap (λ two. option_or (option_map (λ j. (n, j)) (position_from (λ y. not (test (f x) (f y))) (n + 1) xs)) two) (two_map test f (n + 1) xs)

-- tests that agree find the same
pub place_same : {X : Type 0} (f g : X → Bool) (n : ℕ) (xs : List X) → ((x : X) → f x ≡ g x) → position_from f n xs ≡ position_from g n xs
place_same f g n [] same = refl
place_same f g n (x ∷ xs) same = ap (λ b. cond b (Some n) (position_from f (n + 1) xs)) (same x)
    ∙ ap (λ later. cond (g x) (Some n) later) (place_same f g (n + 1) xs same)

-- counted from a greater number
pub place_shifted : {X : Type 0} (test : X → Bool) (m n : ℕ) (xs : List X) → position_from test (m + n) xs ≡ option_map (λ i. m + i) (position_from test n xs)
place_shifted test m n [] = refl
place_shifted test m n (x ∷ xs) = elim (cases_Bool (test x)) [
  | inl passes ↦ rw passes refl
  | inr fails ↦ rw fails (ap (λ k. position_from test k xs) (omega arith) ∙ place_shifted test m (n + 1) xs)
]

-- ---- one element more

pub place_append : {X : Type 0} (test : X → Bool) (n : ℕ) (xs ys : List X)
    → position_from test n (xs ++ ys) ≡ option_or (position_from test n xs) (position_from test (n + length xs) ys)
place_append test n [] ys = ap (λ k. position_from test k ys) (omega arith)
place_append test n (x ∷ xs) ys = elim (cases_Bool (test x)) [
  | inl passes ↦ rw passes refl
  | inr fails ↦ rw fails (place_append test (n + 1) xs ys ∙ ap (λ k. option_or (position_from test (n + 1) xs) (position_from test k ys)) (omega arith))
]

pub place_within : {X : Type 0} (test : X → Bool) (n : ℕ) (xs : List X) (i : ℕ) → position_from test n xs ≡ Some i → (n ≤ i) × (i < n + length xs)
place_within test n [] i h = absurd (cc h)
place_within test n (x ∷ xs) i h = elim (cases_Bool (test x)) [
  | inl passes ↦ let same : n ≡ i = cc (rw passes at h) in (omega arith, omega arith)
  | inr fails ↦ let rest = place_within test (n + 1) xs i (rw fails at h) in (omega arith, omega arith)
]

-- ---- the least two that fail

pub two_within : {X : Type 0} (test : X → X → Bool) (n : ℕ) (xs : List X) (two : ℕ × ℕ) → first_two_from test n xs ≡ Some two
    → (n ≤ two.0) × (two.0 < two.1) × (two.1 < n + length xs)
two_within test n [] two h = absurd (cc h)
two_within test n (x ∷ xs) two h = by_place (position_from (λ y. not (test x y)) (n + 1) xs) refl h (λ later. two_within test (n + 1) xs two later)
  where
    by_place : (place : Option ℕ) → position_from (λ y. not (test x y)) (n + 1) xs ≡ place
        → option_or (option_map (λ j. (n, j)) place) (first_two_from test (n + 1) xs) ≡ Some two
        → (first_two_from test (n + 1) xs ≡ Some two → (n + 1 ≤ two.0) × (two.0 < two.1) × (two.1 < n + 1 + length xs))
        → (n ≤ two.0) × (two.0 < two.1) × (two.1 < n + length (x ∷ xs))
    by_place (Some j) found h later =
        let within = place_within (λ y. not (test x y)) (n + 1) xs j found in
        let first : n ≡ two.0 = ap (λ pair. pair.0) (same_Some (n, j) two h) in
        let second : j ≡ two.1 = ap (λ pair. pair.1) (same_Some (n, j) two h) in
        (omega arith, omega (arith, within.0), omega (arith, within.1))
    by_place None none h later = let rest = later h in (omega (arith, rest.0), rest.1, omega (arith, rest.2))

-- The first element x of a list and a new one y behind it: the place of the first that x fails with, whether x and y fail,
-- the least two of the rest, and the first of the rest that fails with y.
lesser_step : (n m : ℕ) (beside : Option ℕ) (fails : Bool) (two : Option (ℕ × ℕ)) (before : Option ℕ)
    → ((two_is : ℕ × ℕ) → two ≡ Some two_is → n < two_is.0) → ((i : ℕ) → before ≡ Some i → n < i)
    → option_or (option_map (λ j. (n, j)) (option_or beside (cond fails (Some m) None))) (lesser_two two (option_map (λ i. (i, m)) before))
    ≡ lesser_two (option_or (option_map (λ j. (n, j)) beside) two) (option_map (λ i. (i, m)) (cond fails (Some n) before))
lesser_step n m None false two before past_two past = refl
lesser_step n m None true None before past_two past = refl
lesser_step n m None true (Some least) before past_two past = let less = past_two least refl in rw (lt-ltb n least.0 less) refl
lesser_step n m (Some j) true two before past_two past = rw (le-ltb n n (omega arith)) refl
lesser_step n m (Some j) false two None past_two past = refl
lesser_step n m (Some j) false two (Some i) past_two past = let less = past i refl in rw (le-ltb i n (omega arith)) refl

-- A list with one element more has the lesser of its own least two and the first that fails with the new one. So a loop
-- that goes by the second element still finds the least first one.
pub two_more : {X : Type 0} (test : X → X → Bool) (n : ℕ) (xs : List X) (y : X)
    → first_two_from test n (xs ++ y ∷ [])
    ≡ lesser_two (first_two_from test n xs) (option_map (λ i. (i, n + length xs)) (position_from (λ x. not (test x y)) n xs))
two_more test n [] y = refl
two_more test n (x ∷ xs) y =
    ap (λ place. option_or (option_map (λ j. (n, j)) place) (first_two_from test (n + 1) (xs ++ y ∷ [])))
    (place_append (λ z. not (test x z)) (n + 1) xs (y ∷ []))
    ∙ ap (λ two. option_or (option_map (λ j. (n, j))
    (option_or (position_from (λ z. not (test x z)) (n + 1) xs) (position_from (λ z. not (test x z)) (n + 1 + length xs) (y ∷ [])))) two)
    (two_more test (n + 1) xs y)
    ∙ lesser_step n (n + 1 + length xs) (position_from (λ z. not (test x z)) (n + 1) xs) (not (test x y)) (first_two_from test (n + 1) xs)
    (position_from (λ z. not (test z y)) (n + 1) xs)
    (λ two h. let within = two_within test (n + 1) xs two h in omega (arith, within.0))
    (λ i h. let within = place_within (λ z. not (test z y)) (n + 1) xs i h in omega (arith, within.0))
    ∙ ap (λ m. lesser_two (first_two_from test n (x ∷ xs)) (option_map (λ i. (i, m)) (position_from (λ z. not (test z y)) n (x ∷ xs)))) (omega arith)

-- What fails behind the least first place is no less. So once two are found, the elements before any place from the
-- least first one on are enough to look at.
two_enough : (old : ℕ × ℕ) (k : ℕ) (before behind : Option ℕ) → ((i : ℕ) → behind ≡ Some i → old.0 ≤ i)
    → lesser_two (Some old) (option_map (λ i. (i, k)) (option_or before behind)) ≡ lesser_two (Some old) (option_map (λ i. (i, k)) before)
two_enough old k (Some i) behind past = refl
two_enough old k None None past = refl
two_enough old k None (Some i) past = let less = past i refl in rw (le-ltb i old.0 less) refl

pub two_next_from : {X : Type 0} (test : X → X → Bool) (n : ℕ) (xs : List X) (y : X) (two : ℕ × ℕ) (m : ℕ) → first_two_from test n xs ≡ Some two → two.0 ≤ n + m
    → first_two_from test n (xs ++ y ∷ []) ≡ lesser_two (Some two) (option_map (λ i. (i, n + length xs)) (position_from (λ x. not (test x y)) n (take m xs)))
two_next_from test n xs y two m found enough =
    two_more test n xs y
    ∙ ap (λ least. lesser_two least (option_map (λ i. (i, n + length xs)) (position_from (λ x. not (test x y)) n xs))) found
    ∙ ap (λ place. lesser_two (Some two) (option_map (λ i. (i, n + length xs)) place)) (ap (position_from (λ x. not (test x y)) n) (sym (take-append-drop m xs))
    ∙ place_append (λ x. not (test x y)) n (take m xs) (drop m xs))
    ∙ two_enough two (n + length xs) (position_from (λ x. not (test x y)) n (take m xs))
    (position_from (λ x. not (test x y)) (n + length (take m xs)) (drop m xs)) behind
  where
    behind : (i : ℕ) → position_from (λ x. not (test x y)) (n + length (take m xs)) (drop m xs) ≡ Some i → two.0 ≤ i
    behind i h =
        let within = place_within (λ x. not (test x y)) (n + length (take m xs)) (drop m xs) i h in
        let more : i < n + length (take m xs) + length (drop m xs) = within.1 in
        omega (arith, within.0, more, length-take m xs, length-drop m xs)
