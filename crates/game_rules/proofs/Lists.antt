-- Tests of some element of a list, and which elements a list has.
use Rattle.std.proofs.Common.{◌≡◌, ◌⊎◌, ℕ, zero, suc, ◌+◌, ◌<◌, ◌≤◌, Bool, true, false, not, ◌||◌, cond, List, [], ◌∷◌, ◌++◌, length, map, filter, refl, sym}
use Rattle.std.proofs.Common.{ap, ◌∙◌, subst, inl, inr, arith}
use Rattle.std.specs.List.{list_any, list_all, flat_map, range_with_len, slice_index_or}
use Rattle.std.proofs.lemmas.Bool.{or_cases, or_right, cases_Bool, cases_lt, false_from_ne_true, both_ways, and_parts, and_from}
use Rattle.std.proofs.lemmas.List.Concat.{flat_map-cons}
use Rattle.game_rules.specs.Board.{below}
use Rattle.std.proofs.lemmas.List.{map-id}
use Rattle.std.proofs.lemmas.List.FromFn.{map-range_with_len_more}

-- which way a choice went
pub chosen : {X : Type 0} (b : Bool) (x y z : X) → cond b x y ≡ z → ((b ≡ true) × (x ≡ z)) ⊎ ((b ≡ false) × (y ≡ z))
chosen true x y z h = inl (refl, h)
chosen false x y z h = inr (refl, h)

-- equal heads before equal lists
pub cons_same : {X : Type 0} (x y : X) (xs ys : List X) → x ≡ y → xs ≡ ys → x ∷ xs ≡ y ∷ ys
cons_same x y xs ys e f = cc

-- the numbers below the next one
pub below_more : (n : ℕ) → below (n + 1) ≡ below n ++ n ∷ []
below_more n = sym (map-id (below (n + 1))) ∙ map-range_with_len_more (λ k. k) 0 n n (omega arith) ∙ ap (λ ks. ks ++ n ∷ []) (map-id (below n))

-- x is an element of the list
abbrev pub Among : {X : Type 0} → X → List X → Type 0
Among x [] = ⊥
Among x (y ∷ ys) = (y ≡ x) ⊎ Among x ys

-- the element at a place of the list
pub Among-at : {X : Type 0} (xs : List X) (k : ℕ) (d : X) → k < length xs → Among (slice_index_or xs k d) xs
Among-at [] k d within = absurd (omega arith)
Among-at (x ∷ xs) zero d within = inl refl
Among-at (x ∷ xs) (suc k) d within = inr (Among-at xs k d (omega arith))

pub any_gives : {X : Type 0} (p : X → Bool) (xs : List X) → list_any p xs ≡ true → (x : X) × Among x xs × (p x ≡ true)
any_gives p [] h = cc
any_gives p (y ∷ ys) h = elim (or_cases (p y) (list_any p ys) h) [
  | inl here ↦ (y, inl refl, here)
  | inr later ↦ let rest = any_gives p ys later in (rest.0, inr rest.1, rest.2)
]

pub any_from : {X : Type 0} (p : X → Bool) (xs : List X) (x : X) → Among x xs → p x ≡ true → list_any p xs ≡ true
any_from p [] x among h = absurd among
any_from p (y ∷ ys) x (inl same) h = rw (ap p same ∙ h) refl
any_from p (y ∷ ys) x (inr later) h = or_right (p y) (list_any p ys) (any_from p ys x later h)

-- two lists of which each has what the other's passing elements stand for
pub any_agree : {X Y : Type 0} (p : X → Bool) (q : Y → Bool) (xs : List X) (ys : List Y)
    → ((x : X) → Among x xs → p x ≡ true → list_any q ys ≡ true) → ((y : Y) → Among y ys → q y ≡ true → list_any p xs ≡ true)
    → list_any p xs ≡ list_any q ys
any_agree p q xs ys to from = elim (cases_Bool (list_any p xs)) [
  | inl h ↦ let found = any_gives p xs h in h ∙ sym (to found.0 found.1 found.2)
  | inr h ↦ h ∙ sym (false_from_ne_true (list_any q ys) (λ g. let found = any_gives q ys g in both_ways (list_any p xs) h (from found.0 found.1 found.2)))
]

pub Among-append_left : {X : Type 0} (x : X) (xs ys : List X) → Among x xs → Among x (xs ++ ys)
Among-append_left x [] ys among = absurd among
Among-append_left x (y ∷ xs) ys (inl same) = inl same
Among-append_left x (y ∷ xs) ys (inr later) = inr (Among-append_left x xs ys later)

pub Among-append_right : {X : Type 0} (x : X) (xs ys : List X) → Among x ys → Among x (xs ++ ys)
Among-append_right x [] ys among = among
Among-append_right x (y ∷ xs) ys among = inr (Among-append_right x xs ys among)

pub Among-append_cases : {X : Type 0} (x : X) (xs ys : List X) → Among x (xs ++ ys) → Among x xs ⊎ Among x ys
Among-append_cases x [] ys among = inr among
Among-append_cases x (y ∷ xs) ys (inl same) = inl (inl same)
Among-append_cases x (y ∷ xs) ys (inr later) = elim (Among-append_cases x xs ys later) [ inl h ↦ inl (inr h) | inr h ↦ inr h ]

pub Among-filter : {X : Type 0} (p : X → Bool) (xs : List X) (x : X) → Among x xs → p x ≡ true → Among x (filter p xs)
Among-filter p [] x among h = absurd among
Among-filter p (y ∷ xs) x (inl same) h = rw (ap p same ∙ h) (inl same)
Among-filter p (y ∷ xs) x (inr later) h = elim (cases_Bool (p y)) [
  | inl passes ↦ rw passes (inr (Among-filter p xs x later h))
  | inr fails ↦ rw fails (Among-filter p xs x later h)
]

pub Among-filter_gives : {X : Type 0} (p : X → Bool) (xs : List X) (x : X) → Among x (filter p xs) → Among x xs × (p x ≡ true)
Among-filter_gives p [] x among = absurd among
Among-filter_gives p (y ∷ xs) x among = elim (cases_Bool (p y)) [
  | inl passes ↦ elim (rw passes at among) [
    | inl same ↦ (inl same, sym (ap p same) ∙ passes)
    | inr later ↦ let rest = Among-filter_gives p xs x later in (inr rest.0, rest.1)
  ]
  | inr fails ↦ let rest = Among-filter_gives p xs x (rw fails at among) in (inr rest.0, rest.1)
]

pub Among-map : {X Y : Type 0} (f : X → Y) (xs : List X) (x : X) → Among x xs → Among (f x) (map f xs)
Among-map f [] x among = absurd among
Among-map f (y ∷ xs) x (inl same) = inl (ap f same)
Among-map f (y ∷ xs) x (inr later) = inr (Among-map f xs x later)

pub Among-map_gives : {X Y : Type 0} (f : X → Y) (xs : List X) (y : Y) → Among y (map f xs) → (x : X) × Among x xs × (f x ≡ y)
Among-map_gives f [] y among = absurd among
Among-map_gives f (x ∷ xs) y (inl same) = (x, inl refl, same)
Among-map_gives f (x ∷ xs) y (inr later) = let rest = Among-map_gives f xs y later in (rest.0, inr rest.1, rest.2)

pub Among-flat_map : {X Y : Type 0} (f : X → List Y) (xs : List X) (x : X) (y : Y) → Among x xs → Among y (f x) → Among y (flat_map f xs)
Among-flat_map f [] x y among h = absurd among
Among-flat_map f (z ∷ xs) x y (inl same) h = rw flat_map-cons (Among-append_left y (f z) (flat_map f xs) (subst (λ z. Among y (f z)) (sym same) h))
Among-flat_map f (z ∷ xs) x y (inr later) h = rw flat_map-cons (Among-append_right y (f z) (flat_map f xs) (Among-flat_map f xs x y later h))

pub Among-flat_map_gives : {X Y : Type 0} (f : X → List Y) (xs : List X) (y : Y) → Among y (flat_map f xs) → (x : X) × Among x xs × Among y (f x)
Among-flat_map_gives f [] y among = absurd among
Among-flat_map_gives f (z ∷ xs) y among = elim (Among-append_cases y (f z) (flat_map f xs) (rw flat_map-cons at among)) [
  | inl here ↦ (z, inl refl, here)
  | inr later ↦ let rest = Among-flat_map_gives f xs y later in (rest.0, inr rest.1, rest.2)
]

Among-range : (a n i : ℕ) → a ≤ i → i < a + n → Among i (range_with_len a n)
Among-range a zero i low high = absurd (omega arith)
Among-range a (suc n) i low high = elim (cases_lt a i) [
  | inl later ↦ inr (Among-range (a + 1) n i (omega arith) (omega arith))
  | inr first ↦ inl (omega arith)
]

pub Among-range_gives : (a n i : ℕ) → Among i (range_with_len a n) → (a ≤ i) × (i < a + n)
Among-range_gives a zero i among = absurd among
Among-range_gives a (suc n) i (inl same) = (omega arith, omega arith)
Among-range_gives a (suc n) i (inr later) = let rest = Among-range_gives (a + 1) n i later in (omega arith, omega arith)

pub Among-below : (n i : ℕ) → i < n → Among i (below n)
Among-below n i h = Among-range 0 n i (omega arith) (omega arith)

pub Among-below_gives : (n i : ℕ) → Among i (below n) → i < n
Among-below_gives n i among = let h = Among-range_gives 0 n i among in omega arith

-- two tests that agree on the list's elements
pub any_same : {X : Type 0} (p q : X → Bool) (xs : List X) → ((x : X) → Among x xs → p x ≡ q x) → list_any p xs ≡ list_any q xs
any_same p q [] same = refl
any_same p q (x ∷ xs) same = ap (λ b. b || list_any p xs) (same x (inl refl)) ∙ ap (λ b. q x || b) (any_same p q xs (λ y among. same y (inr among)))

pub all_any : {X : Type 0} (p : X → Bool) (xs : List X) → list_all p xs ≡ not (list_any (λ x. not (p x)) xs)
all_any p [] = refl
all_any p (x ∷ xs) = elim (cases_Bool (p x)) [
  | inl passes ↦ rw passes (all_any p xs)
  | inr fails ↦ rw fails refl
]

pub any_map : {X Y : Type 0} (p : Y → Bool) (f : X → Y) (xs : List X) → list_any p (map f xs) ≡ list_any (λ x. p (f x)) xs
any_map p f [] = refl
any_map p f (x ∷ xs) = ap (λ b. p (f x) || b) (any_map p f xs)

pub all_gives : {X : Type 0} (p : X → Bool) (xs : List X) (x : X) → list_all p xs ≡ true → Among x xs → p x ≡ true
all_gives p [] x h among = absurd among
all_gives p (y ∷ xs) x h (inl same) = sym (ap p same) ∙ (and_parts (p y) (list_all p xs) h).0
all_gives p (y ∷ xs) x h (inr later) = all_gives p xs x (and_parts (p y) (list_all p xs) h).1 later

pub all_from : {X : Type 0} (p : X → Bool) (xs : List X) → ((x : X) → Among x xs → p x ≡ true) → list_all p xs ≡ true
all_from p [] each = refl
all_from p (y ∷ xs) each = and_from (p y) (list_all p xs) (each y (inl refl)) (all_from p xs (λ x among. each x (inr among)))

-- fewer pass a stronger test
pub filter_fewer : {X : Type 0} (p q : X → Bool) (xs : List X) → ((x : X) → p x ≡ true → q x ≡ true) → length (filter p xs) ≤ length (filter q xs)
filter_fewer p q [] h = omega arith
filter_fewer p q (x ∷ xs) h = elim (cases_Bool (q x)) [
  | inl weaker ↦ elim (cases_Bool (p x)) [
    | inl passes ↦ rw (passes, weaker) (let rest = filter_fewer p q xs h in omega (arith, rest))
    | inr fails ↦ rw (fails, weaker) (let rest = filter_fewer p q xs h in omega (arith, rest))
  ]
  | inr none ↦ elim (cases_Bool (p x)) [
    | inl passes ↦ absurd (cc (h x passes, none))
    | inr fails ↦ rw (fails, none) (filter_fewer p q xs h)
  ]
]
