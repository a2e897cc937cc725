-- What the number of a mask says of its squares.
use Rattle.std.proofs.Common.{◌≡◌, ◌≢◌, ◌⊎◌, ℕ, ◌+◌, ◌-◌, ◌*◌, ◌/◌, ◌%◌, ◌^◌, ◌<◌, min, max, Bool, true, false, not, ◌&&◌, ◌||◌, ◌==◌, List, [], ◌∷◌, length}
use Rattle.std.proofs.Common.{refl, sym, ap, ◌∙◌, subst, inl, inr, arith}
use Rattle.std.specs.Int.{bit_at, bit_not, w128}
use Rattle.std.specs.Int.RustNames.{bit_and, bit_or}
use Rattle.std.specs.List.{list_any, list_all}
use Rattle.std.proofs.lemmas.Bool.{cases_eq, cases_Bool, both_ways, false_from_ne_true, or_cases, and_parts, eq-eqb, eqb-true, ne_eqb}
use Rattle.std.proofs.lemmas.Nat.{one_shl, or_lt, and_le_l, pow_below}
use Rattle.std.proofs.lemmas.Nat.Bits.{bit_at-lt, bit_at-zero, bit_at_and, bit_at_or, bit_at_not, bit_at_above, bit_at_set_same, bit_at_set_other, shr_and_one}
use Rattle.std.proofs.lemmas.Nat.Bits.{same_from_bits}
use Rattle.game_rules.specs.Board.{Square, on_board}
use Rattle.game_rules.specs.Squares.{same_square, has_square, widest, squares_of_board, squares_where, IsSetOf}
use Rattle.game_rules.proofs.Lists.{any_gives, any_from, all_gives, all_from}
use Rattle.game_rules.proofs.Ends.{on_board_parts, on_board_from}
use Rattle.game_rules.proofs.Squares.{agree, same_square_refl, same_square_is, has_gives, has_from, has_where, where_on, where_same, set_where}
use Rattle.board_squares.specs.Words.{place_of, square_at, has_bit, squares_of, word_of}
use Rattle.board_squares.proofs.Words.{IsWord, word_is_word, word_back}

-- ---- places

pub place_low : (u : Square) → on_board widest u ≡ true → place_of u < 110
place_low u on = let parts = on_board_parts widest u.0 u.1 on in omega arith

-- no square's bit is the highest of its column
pub place_not_top : (u : Square) → on_board widest u ≡ true → (c : ℕ) → 11 * c + 10 ≢ place_of u
place_not_top u on c same = let parts = on_board_parts widest u.0 u.1 on in omega arith

place_determines : (u v : Square) → on_board widest u ≡ true → on_board widest v ≡ true → place_of u ≡ place_of v → u ≡ v
place_determines (a, b) (c, d) left right same =
    let first = on_board_parts widest a b left in let second = on_board_parts widest c d right in
    let column : a ≡ c = omega arith in let row : b ≡ d = omega arith in rw (column, row) refl

pub place_at : (i : ℕ) → place_of (square_at i) ≡ i
place_at i = omega arith

pub bit_cases : (n i : ℕ) → (bit_at n i ≡ 0) ⊎ (bit_at n i ≡ 1)
bit_cases n i = let small : bit_at n i < 2 = bit_at-lt n i in elim (cases_eq (bit_at n i) 0) [ inl none ↦ inl none | inr some ↦ inr (omega arith) ]

-- each bit that is set is that of a square of the widest board
pub bit_on : (n i : ℕ) → IsWord n → bit_at n i ≡ 1 → on_board widest (square_at i) ≡ true
bit_on n i word set = let within = low in elim (cases_eq (i % 11) 10) [
  | inl top ↦
      let last : i ≡ 11 * (i / 11) + 10 = omega arith in
      absurd (let none : bit_at n i ≡ 0 = ap (bit_at n) last ∙ word.gaps (i / 11) in omega (arith, none, set))
  | inr under ↦ on_board_from widest (i / 11) (i % 11 + 1) (omega arith) (omega arith) (omega arith)
]
  where
    low : i < 110
    low = elim (cases_eq (i / 110) 0) [
      | inl none ↦ omega arith
      | inr some ↦ absurd (let none : bit_at n i ≡ 0 = bit_at_above n 110 i word.low (omega arith) in omega (arith, none, set))
    ]

pub bit_has : (n i : ℕ) → bit_at n i ≡ 1 → has_bit n (square_at i) ≡ true
bit_has n i set = eq-eqb (bit_at n (place_of (square_at i))) 1 (ap (bit_at n) (place_at i) ∙ set)

pub has_set : (n : ℕ) (u : Square) → has_bit n u ≡ true → bit_at n (place_of u) ≡ 1
has_set n u has = eqb-true (bit_at n (place_of u)) 1 has

-- the test of a bit by a shift
pub shift_has : (n : ℕ) (u : Square) → (bit_and (n / 2 ^ place_of u) 1 == 1) ≡ has_bit n u
shift_has n u = ap (λ b. b == 1) (shr_and_one n (place_of u))

pub shift_lacks : (n : ℕ) (u : Square) → (bit_and (n / 2 ^ place_of u) 1 == 0) ≡ not (has_bit n u)
shift_lacks n u = ap (λ b. b == 0) (shr_and_one n (place_of u)) ∙ at (bit_cases n (place_of u))
  where
    at : (bit_at n (place_of u) ≡ 0) ⊎ (bit_at n (place_of u) ≡ 1) → (bit_at n (place_of u) == 0) ≡ not (has_bit n u)
    at (inl none) = rw none refl
    at (inr set) = rw set refl

-- ---- sets

-- the bits are those of a test
pub word_set : (test : Square → Bool) (n : ℕ) → ((u : Square) → test u ≡ true → on_board widest u ≡ true)
    → ((u : Square) → on_board widest u ≡ true → has_bit n u ≡ test u) → IsSetOf test (squares_of n)
word_set test n within same = subst (IsSetOf test) (sym (where_same (has_bit n) test same)) (set_where test within)

-- a number that its squares give back has bits of squares alone
pub word_from : (n : ℕ) → word_of (squares_of n) ≡ n → IsWord n
word_from n told = subst IsWord told (word_is_word (has_bit n))

pub no_bit : (u : Square) → has_bit 0 u ≡ false
no_bit u = ne_eqb (bit_at 0 (place_of u)) 1 (λ one. let none : bit_at 0 (place_of u) ≡ 0 = bit_at-zero (place_of u) in omega (arith, none, one))

pub zero_word : IsWord 0
zero_word = record { low = omega arith; gaps = λ c. bit_at-zero (11 * c + 10) }

pub zero_set : IsSetOf (λ _. false) (squares_of 0)
zero_set = word_set (λ _. false) 0 (λ u h. cc) (λ u on. no_bit u)

no_squares_where : squares_where (λ _. false) ≡ []
unfolding squares_where squares_of_board
no_squares_where = refl

-- 0 is the number of no square
pub no_squares : squares_of 0 ≡ []
no_squares = zero_set.in_order ∙ no_squares_where

-- a set has no square exactly where its number is 0
pub none_word : (n : ℕ) → IsWord n → (n == 0) ≡ (length (squares_of n) == 0)
none_word n word = agree _ _
    (λ none. eq-eqb (length (squares_of n)) 0 (ap (λ m. length (squares_of m)) (eqb-true n 0 none) ∙ ap length no_squares))
    (λ none. eq-eqb n 0 (sym (word_back n word) ∙ of_none (squares_of n) (eqb-true (length (squares_of n)) 0 none)))
  where
    of_none : (us : List Square) → length us ≡ 0 → word_of us ≡ 0
    of_none [] none = refl
    of_none (u ∷ us) none = absurd (omega arith)

-- ---- one more square

abbrev pub more : ℕ → Square → ℕ
more n s = bit_or n (1 * 2 ^ place_of s % 2 ^ 128)

module _ (n : ℕ) (s : Square) (on_s : on_board widest s ≡ true) where
  pub more_word : IsWord n → IsWord (more n s)
  more_word word = record {
    low = or_lt 110 n (1 * 2 ^ place_of s % 2 ^ 128) word.low
        (subst (λ m. m < 2 ^ 110) (sym (one_shl (place_of s) 128 (let low = place_low s on_s in omega arith))) (pow_below (place_of s) 110 (place_low s on_s)));
    gaps = λ c. bit_at_set_other w128 n (place_of s) (let low = place_low s on_s in omega arith) (11 * c + 10) (place_not_top s on_s c) ∙ word.gaps c;
  }

  pub more_bit : (u : Square) → on_board widest u ≡ true → has_bit (more n s) u ≡ (same_square u s || has_bit n u)
  more_bit u on = elim (cases_eq (place_of u) (place_of s)) [
    | inl same ↦
        let here : u ≡ s = place_determines u s on on_s same in
        rw (here, same_square_refl s) (eq-eqb (bit_at (more n s) (place_of s)) 1
        (bit_at_set_same w128 n (place_of s) (let low = place_low s on_s in omega arith)))
    | inr apart ↦
        ap (λ b. b == 1) (bit_at_set_other w128 n (place_of s) (let low = place_low s on_s in omega arith) (place_of u) apart)
        ∙ ap (λ b. b || has_bit n u) (sym (false_from_ne_true (same_square u s) (λ same. apart (ap place_of (same_square_is u s same)))))
  ]

  pub more_set : IsSetOf (λ u. same_square u s || has_square (squares_of n) u) (squares_of (more n s))
  more_set = word_set (λ u. same_square u s || has_square (squares_of n) u) (more n s)
      (λ u h. elim (or_cases (same_square u s) (has_square (squares_of n) u) h) [
        | inl same ↦ subst (λ u. on_board widest u ≡ true) (sym (same_square_is u s same)) on_s
        | inr old ↦ where_on (has_bit n) u old
      ])
      (λ u on. more_bit u on ∙ ap (λ b. same_square u s || b) (sym (has_where (has_bit n) u on)))

-- ---- two sets

module _ (a b : ℕ) where
  pub union_word : IsWord a → IsWord b → IsWord (bit_or a b)
  union_word left right = record {
    low = or_lt 110 a b left.low right.low;
    gaps = λ c. let first = left.gaps c in let second = right.gaps c in bit_at_or a b (11 * c + 10) ∙ omega (arith, first, second);
  }

  pub union_bit : (u : Square) → has_bit (bit_or a b) u ≡ (has_bit a u || has_bit b u)
  union_bit u = ap (λ n. n == 1) (bit_at_or a b (place_of u)) ∙ at (bit_cases a (place_of u)) (bit_cases b (place_of u))
    where
      at : (bit_at a (place_of u) ≡ 0) ⊎ (bit_at a (place_of u) ≡ 1) → (bit_at b (place_of u) ≡ 0) ⊎ (bit_at b (place_of u) ≡ 1)
          → (max (bit_at a (place_of u)) (bit_at b (place_of u)) == 1) ≡ (has_bit a u || has_bit b u)
      at (inl first) (inl second) = rw (first, second) refl
      at (inl first) (inr second) = rw (first, second) refl
      at (inr first) (inl second) = rw (first, second) refl
      at (inr first) (inr second) = rw (first, second) refl

  pub common_word : IsWord a → IsWord (bit_and a b)
  common_word left = record {
    low = let first = left.low in let less = and_le_l a b in omega (arith, first, less);
    gaps = λ c. let none = left.gaps c in bit_at_and a b (11 * c + 10) ∙ omega (arith, none);
  }

  pub common_bit : (u : Square) → has_bit (bit_and a b) u ≡ (has_bit a u && has_bit b u)
  common_bit u = ap (λ n. n == 1) (bit_at_and a b (place_of u)) ∙ at (bit_cases a (place_of u)) (bit_cases b (place_of u))
    where
      at : (bit_at a (place_of u) ≡ 0) ⊎ (bit_at a (place_of u) ≡ 1) → (bit_at b (place_of u) ≡ 0) ⊎ (bit_at b (place_of u) ≡ 1)
          → (min (bit_at a (place_of u)) (bit_at b (place_of u)) == 1) ≡ (has_bit a u && has_bit b u)
      at (inl first) (inl second) = rw (first, second) refl
      at (inl first) (inr second) = rw (first, second) refl
      at (inr first) (inl second) = rw (first, second) refl
      at (inr first) (inr second) = rw (first, second) refl

  pub union_set : IsSetOf (λ u. has_square (squares_of a) u || has_square (squares_of b) u) (squares_of (bit_or a b))
  union_set = word_set (λ u. has_square (squares_of a) u || has_square (squares_of b) u) (bit_or a b)
      (λ u h. elim (or_cases _ _ h) [ inl left ↦ where_on (has_bit a) u left | inr right ↦ where_on (has_bit b) u right ])
      (λ u on. union_bit u
      ∙ ap (λ x. x || has_bit b u) (sym (has_where (has_bit a) u on))
      ∙ ap (λ y. has_square (squares_of a) u || y) (sym (has_where (has_bit b) u on)))

  -- the common bits are those of the common squares
  pub common_set : IsSetOf (λ u. has_square (squares_of a) u && has_square (squares_of b) u) (squares_of (bit_and a b))
  common_set = word_set (λ u. has_square (squares_of a) u && has_square (squares_of b) u) (bit_and a b)
      (λ u h. where_on (has_bit a) u (and_parts _ _ h).0)
      (λ u on. common_bit u
      ∙ ap (λ x. x && has_bit b u) (sym (has_where (has_bit a) u on))
      ∙ ap (λ y. has_square (squares_of a) u && y) (sym (has_where (has_bit b) u on)))

  -- no common bit
  pub zero_from_apart : IsWord a → ((u : Square) → on_board widest u ≡ true → has_bit a u ≡ true → has_bit b u ≡ false) → bit_and a b ≡ 0
  zero_from_apart word apart = same_from_bits (bit_and a b) 0 (λ i. bit_at_and a b i ∙ at i (bit_cases a i) (bit_cases b i) ∙ sym (bit_at-zero i))
    where
      at : (i : ℕ) → (bit_at a i ≡ 0) ⊎ (bit_at a i ≡ 1) → (bit_at b i ≡ 0) ⊎ (bit_at b i ≡ 1) → min (bit_at a i) (bit_at b i) ≡ 0
      at i (inl none) other = omega arith
      at i (inr set) (inl none) = omega arith
      at i (inr set) (inr both) = absurd (both_ways _ (apart (square_at i) (bit_on a i word set) (bit_has a i set)) (bit_has b i both))

  pub apart_from_zero : bit_and a b ≡ 0 → (u : Square) → has_bit a u ≡ true → has_bit b u ≡ false
  apart_from_zero none_set u has = false_from_ne_true (has_bit b u) (λ other.
      let first = has_set a u has in let second = has_set b u other in
      let none : min (bit_at a (place_of u)) (bit_at b (place_of u)) ≡ 0 = sym (bit_at_and a b (place_of u)) ∙ ap (λ n. bit_at n (place_of u)) none_set
      ∙ bit_at-zero (place_of u) in
      omega (arith, first, second, none))

  pub none_common : IsWord a → bit_and a b ≡ 0 → list_any (has_square (squares_of b)) (squares_of a) ≡ false
  none_common word none_set = false_from_ne_true _ (λ h.
      let found = any_gives (has_square (squares_of b)) (squares_of a) h in
      let on = where_on (has_bit b) found.0 found.2 in
      both_ways (has_bit b found.0) (apart_from_zero none_set found.0 (sym (has_where (has_bit a) found.0 on) ∙ has_from (squares_of a) found.0 found.1))
      (sym (has_where (has_bit b) found.0 on) ∙ found.2))

  pub some_common : IsWord a → list_any (has_square (squares_of b)) (squares_of a) ≡ false → bit_and a b ≡ 0
  some_common word none = zero_from_apart word (λ u on has. false_from_ne_true (has_bit b u) (λ other.
      both_ways _ none (any_from (has_square (squares_of b)) (squares_of a) u (has_gives (squares_of a) u (has_where (has_bit a) u on ∙ has))
      (has_where (has_bit b) u on ∙ other))))

  -- the words meet exactly where the sets do
  pub meets_word : IsWord a → not (bit_and a b == 0) ≡ list_any (has_square (squares_of b)) (squares_of a)
  meets_word word = elim (cases_eq (bit_and a b) 0) [
    | inl none ↦ ap not (eq-eqb (bit_and a b) 0 none) ∙ sym (none_common word none)
    | inr some ↦
        ap not (ne_eqb (bit_and a b) 0 some)
        ∙ sym (elim (cases_Bool (list_any (has_square (squares_of b)) (squares_of a))) [ inl met ↦ met | inr apart ↦ absurd (some (some_common word apart)) ])
  ]

-- ---- what is not in a set

pub not_bit : (n : ℕ) (u : Square) → n < 2 ^ 128 → on_board widest u ≡ true → has_bit (bit_not w128 n) u ≡ not (has_bit n u)
not_bit n u low on = ap (λ b. b == 1) (bit_at_not w128 n (place_of u) low (let within = place_low u on in omega arith)) ∙ at (bit_cases n (place_of u))
  where
    at : (bit_at n (place_of u) ≡ 0) ⊎ (bit_at n (place_of u) ≡ 1) → ((1 - bit_at n (place_of u)) == 1) ≡ not (has_bit n u)
    at (inl none) = rw none refl
    at (inr set) = rw set refl

-- the bits of a number that another doesn't have
abbrev pub without : ℕ → ℕ → ℕ
without a b = bit_and a (bit_not w128 b)

pub without_word : (a b : ℕ) → IsWord a → IsWord (without a b)
without_word a b = common_word a (bit_not w128 b)

pub without_bit : (a b : ℕ) (u : Square) → b < 2 ^ 128 → on_board widest u ≡ true → has_bit (without a b) u ≡ (has_bit a u && not (has_bit b u))
without_bit a b u low on = common_bit a (bit_not w128 b) u ∙ ap (λ x. has_bit a u && x) (not_bit b u low on)

-- they are those of the squares that the other set doesn't have
pub without_set : (a b : ℕ) → b < 2 ^ 128 → IsSetOf (λ u. has_square (squares_of a) u && not (has_square (squares_of b) u)) (squares_of (without a b))
without_set a b low = word_set (λ u. has_square (squares_of a) u && not (has_square (squares_of b) u)) (without a b)
    (λ u h. where_on (has_bit a) u (and_parts _ _ h).0)
    (λ u on. without_bit a b u low on
    ∙ ap (λ x. x && not (has_bit b u)) (sym (has_where (has_bit a) u on))
    ∙ ap (λ y. has_square (squares_of a) u && not y) (sym (has_where (has_bit b) u on)))

module _ (a b : ℕ) (left : IsWord a) (low : b < 2 ^ 128) where
  pub all_within : bit_and a (bit_not w128 b) ≡ 0 → list_all (has_square (squares_of b)) (squares_of a) ≡ true
  all_within none_set = all_from (has_square (squares_of b)) (squares_of a) (λ u among.
      let has = has_from (squares_of a) u among in
      let on = where_on (has_bit a) u has in
      has_where (has_bit b) u on ∙ not_false (has_bit b u)
      (sym (not_bit b u low on) ∙ apart_from_zero a (bit_not w128 b) none_set u (sym (has_where (has_bit a) u on) ∙ has)))
    where
      not_false : (x : Bool) → not x ≡ false → x ≡ true
      not_false true h = refl
      not_false false h = cc

  pub within_all : list_all (has_square (squares_of b)) (squares_of a) ≡ true → bit_and a (bit_not w128 b) ≡ 0
  within_all all = zero_from_apart a (bit_not w128 b) left (λ u on has.
      not_bit b u low on
      ∙ ap not (sym (has_where (has_bit b) u on)
      ∙ all_gives (has_square (squares_of b)) (squares_of a) u all (has_gives (squares_of a) u (has_where (has_bit a) u on ∙ has))))

  pub within_word : (bit_and a (bit_not w128 b) == 0) ≡ list_all (has_square (squares_of b)) (squares_of a)
  within_word = agree _ _ (λ h. all_within (eqb-true _ 0 h)) (λ all. eq-eqb (bit_and a (bit_not w128 b)) 0 (within_all all))
