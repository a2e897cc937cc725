-- The squares of a word one after another, from its lowest bit on.
use Rattle.std.proofs.Common.{◌≡◌, ◌≢◌, ◌⊎◌, ℕ, suc, ◌+◌, ◌-◌, ◌*◌, ◌/◌, ◌%◌, ◌^◌, ◌<◌, ◌≤◌, Bool, true, false, ◌&&◌, ◌==◌, nat_le, List, [], ◌∷◌, length}
use Rattle.std.proofs.Common.{filter, refl, sym, ap, ◌∙◌, subst, inl, inr, arith, bit_and}
use Rattle.std.specs.Int.{bit_at, trailing_zeros, w128}
use Rattle.std.proofs.Math.Nat.{mod-lt}
use Rattle.std.proofs.lemmas.Bool.{cases_lt, cases_eq, and_parts, eq-eqb, ne_eqb, leb-true}
use Rattle.std.proofs.lemmas.Nat.{shr_split, pow_pos, pow_below, and_le_r}
use Rattle.std.proofs.lemmas.Nat.Bits.{bit_at_and, bit_at-trailing_zeros, bit_at-pow_same, bit_at-pow_other, bit_at_ones_above, bit_at_cat_low, bit_at_cat_high}
use Rattle.std.proofs.lemmas.Nat.Bits.{same_from_bits_below}
use Rattle.game_rules.specs.Board.{Square, on_board}
use Rattle.game_rules.specs.Squares.{widest, squares_of_board, squares_where}
use Rattle.game_rules.proofs.Lists.{Among, filter_fewer}
use Rattle.game_rules.proofs.Squares.{Among-board, filter_same}
use Rattle.board_squares.specs.Words.{place_of, square_at, has_bit, squares_of}
use Rattle.board_squares.proofs.Words.{IsWord}
use Rattle.board_squares.proofs.Masks.{place_at, bit_on, common_word}

-- each square's bit stands above those before it, and the first not below a number
abbrev rising : ℕ → List Square → Bool
rising low [] = true
rising low (u ∷ us) = nat_le low (place_of u) && rising (place_of u + 1) us

-- in square order the bits rise
all_rising : rising 0 (squares_of_board widest) ≡ true
unfolding squares_of_board
all_rising = refl

-- no square has a lower bit than the first may have
rising_past : (low : ℕ) (us : List Square) → rising low us ≡ true → (v : Square) → Among v us → low ≤ place_of v
rising_past low [] up v among = absurd among
rising_past low (u ∷ us) up v (inl same) = let both = and_parts (nat_le low (place_of u)) (rising (place_of u + 1) us) up in subst (λ w. low ≤ place_of w) same
    (leb-true low (place_of u) both.0)
rising_past low (u ∷ us) up v (inr later) =
    let both = and_parts (nat_le low (place_of u)) (rising (place_of u + 1) us) up in
    let first : low ≤ place_of u = leb-true low (place_of u) both.0 in
    let rest : place_of u + 1 ≤ place_of v = rising_past (place_of u + 1) us both.1 v later in
    omega (arith, first, rest)

-- ---- the lowest bit taken away

module _ (n t : ℕ) (set : bit_at n t ≡ 1) (lower : (i : ℕ) → i < t → bit_at n i ≡ 0) where
  -- up to its lowest bit the number has that bit alone
  low_part : n % 2 ^ suc t ≡ 2 ^ t
  low_part = same_from_bits_below (suc t) (n % 2 ^ suc t) (2 ^ t) (mod-lt n (pow_pos (suc t))) (pow_below t (suc t) (omega arith)) (λ i within.
      sym (ap (λ m. bit_at m i) (sym (shr_split n (suc t))) ∙ bit_at_cat_low (n / 2 ^ suc t) (suc t) (n % 2 ^ suc t) i within) ∙ at i (cases_eq i t) within)
    where
      at : (i : ℕ) → (i ≡ t) ⊎ (i ≢ t) → i < suc t → bit_at n i ≡ bit_at (2 ^ t) i
      at i (inl same) within = ap (bit_at n) same ∙ set ∙ sym (ap (bit_at (2 ^ t)) same ∙ bit_at-pow_same t)
      at i (inr apart) within = lower i (omega arith) ∙ sym (bit_at-pow_other t i apart)

  -- what stands above the lowest bit, and that bit
  split : n ≡ n / 2 ^ suc t * 2 ^ suc t + 2 ^ t
  split = sym (shr_split n (suc t)) ∙ ap (λ r. n / 2 ^ suc t * 2 ^ suc t + r) low_part

  -- one less turns that bit and those below it, and nothing above
  split_less : n - 1 ≡ n / 2 ^ suc t * 2 ^ suc t + (2 ^ t - 1)
  split_less = let all = split in let some = pow_pos t in omega (arith, all, some)

  -- the lowest bit is cleared
  taken_gone : bit_at (bit_and n (n - 1)) t ≡ 0
  taken_gone =
      let none : bit_at (n - 1) t ≡ 0 = ap (λ m. bit_at m t) split_less ∙ bit_at_cat_low (n / 2 ^ suc t) (suc t) (2 ^ t - 1) t (omega arith)
      ∙ bit_at_ones_above t t (omega arith) in
      bit_at_and n (n - 1) t ∙ omega (arith, none)

  -- the other bits stay
  taken_kept : (i : ℕ) → i ≢ t → bit_at (bit_and n (n - 1)) i ≡ bit_at n i
  taken_kept i apart = elim (cases_lt i t) [
    | inl under ↦ let none = lower i under in bit_at_and n (n - 1) i ∙ omega (arith, none)
    | inr over ↦
        let some = pow_pos t in
        let power : 2 ^ t < 2 ^ suc t = pow_below t (suc t) (omega arith) in
        let less : bit_at (n - 1) i ≡ bit_at (n / 2 ^ suc t) (i - suc t) = ap (λ m. bit_at m i) split_less
        ∙ bit_at_cat_high (n / 2 ^ suc t) (suc t) (2 ^ t - 1) i (omega (arith, power)) (omega arith) in
        let own : bit_at n i ≡ bit_at (n / 2 ^ suc t) (i - suc t) = ap (λ m. bit_at m i) split
        ∙ bit_at_cat_high (n / 2 ^ suc t) (suc t) (2 ^ t) i power (omega arith) in
        bit_at_and n (n - 1) i ∙ omega (arith, less, own)
  ]

  -- of squares in order, the first that passes is that of the lowest bit
  first_taken : (low : ℕ) (us : List Square) → rising low us ≡ true → Among (square_at t) us
      → filter (has_bit n) us ≡ square_at t ∷ filter (has_bit (bit_and n (n - 1))) us
  first_taken low [] up among = absurd among
  first_taken low (u ∷ us) up (inl same) =
      let both = and_parts (nat_le low (place_of u)) (rising (place_of u + 1) us) up in
      let place : place_of u ≡ t = ap place_of same ∙ place_at t in
      let has : has_bit n u ≡ true = eq-eqb _ 1 (ap (bit_at n) place ∙ set) in
      let lacks : has_bit (bit_and n (n - 1)) u
      ≡ false = ne_eqb _ 1 (λ one. let none : bit_at (bit_and n (n - 1)) (place_of u) ≡ 0 = ap (bit_at (bit_and n (n - 1))) place
      ∙ taken_gone in omega (arith, none, one)) in
      let rest : filter (has_bit n) us ≡ filter (has_bit (bit_and n (n - 1))) us = filter_same (has_bit n) (has_bit (bit_and n (n - 1))) us (λ v among.
      let later : place_of u + 1 ≤ place_of v = rising_past (place_of u + 1) us both.1 v among in
      ap (λ b. b == 1) (sym (taken_kept (place_of v) (λ same_place. omega (arith, later, same_place, place))))) in
      rw (has, lacks) (ap (λ v. v ∷ filter (has_bit n) us) same ∙ ap (λ vs. square_at t ∷ vs) rest)
  first_taken low (u ∷ us) up (inr later) =
      let both = and_parts (nat_le low (place_of u)) (rising (place_of u + 1) us) up in
      let before : place_of u + 1 ≤ place_of (square_at t) = rising_past (place_of u + 1) us both.1 (square_at t) later in
      let under : place_of u < t = subst (λ m. place_of u < m) (place_at t) (omega (arith, before)) in
      let lacks : has_bit n u ≡ false = ne_eqb _ 1 (λ one. let none = lower (place_of u) under in omega (arith, none, one)) in
      let lacks_too : has_bit (bit_and n (n - 1)) u ≡ false = ap (λ b. b == 1) (taken_kept (place_of u) (λ same. omega (arith, same, under))) ∙ lacks in
      rw (lacks, lacks_too) (first_taken (place_of u + 1) us both.1 later)

-- the place of the lowest bit
abbrev pub lowest : ℕ → ℕ
lowest = trailing_zeros w128

module _ (n : ℕ) (word : IsWord n) (some : 0 < n) where
  low_number : n < 2 ^ 128
  low_number = let low = word.low in omega (arith, low)

  -- the lowest bit is a square's
  pub lowest_on : on_board widest (square_at (lowest n)) ≡ true
  lowest_on = bit_on n (lowest n) word (bit_at-trailing_zeros w128 n some low_number).1

  -- the squares of a word are that of its lowest bit, and those of the word without it
  pub squares_taken : squares_of n ≡ square_at (lowest n) ∷ squares_of (bit_and n (n - 1))
  unfolding squares_where
  squares_taken =
      let first = bit_at-trailing_zeros w128 n some low_number in
      first_taken n (lowest n) first.1 first.2 0 (squares_of_board widest) all_rising (Among-board widest (square_at (lowest n)) lowest_on)

  pub taken_word : IsWord (bit_and n (n - 1))
  taken_word = common_word n (n - 1) word

  pub taken_less : bit_and n (n - 1) < n
  taken_less = let less = and_le_r n (n - 1) in omega (arith, less)

-- the widest board has a hundred squares
board_count : length (filter (λ _. true) (squares_of_board widest)) ≡ 100
unfolding squares_of_board
board_count = refl

-- so a set has at most as many
pub most_squares : (n : ℕ) → length (squares_of n) ≤ 100
unfolding squares_where
most_squares n = subst (λ m. length (squares_of n) ≤ m) board_count (filter_fewer (has_bit n) (λ _. true) (squares_of_board widest) (λ u h. refl))
