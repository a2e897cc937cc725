-- Sets of squares by their rows: the squares below those of a set, a part of one column, and the odd rows.
use Rattle.std.proofs.Common.{◌≡◌, ◌⊎◌, ℕ, suc, ◌+◌, ◌-◌, ◌*◌, ◌/◌, ◌%◌, ◌^◌, ◌<◌, ◌≤◌, Bool, true, false, not, ◌&&◌, ◌==◌, nat_le, refl, sym, ap, ◌∙◌, subst}
use Rattle.std.proofs.Common.{inl, inr, arith}
use Rattle.std.specs.Int.{bit_at}
use Rattle.std.proofs.Math.Nat.{add-mul, div-eq_of_lt}
use Rattle.std.proofs.lemmas.Bool.{cases_lt, both_ways, and_parts, and_from, eq-eqb, eqb-true, ne_eqb, le-leb, leb-true, false_from_ne_true}
use Rattle.std.proofs.lemmas.Nat.{one_shl, pow-add, pow_pos, pow_below}
use Rattle.std.proofs.lemmas.Nat.Bits.{bit_at-suc, bit_at_above, bit_at_mask_inside, bit_at_mask_below, bit_at_mask_above, ones_shr}
use Rattle.game_rules.specs.Board.{Square, on_board}
use Rattle.game_rules.specs.Squares.{has_square, widest, squares_of_board, squares_where, IsSetOf}
use Rattle.game_rules.proofs.Ends.{on_board_parts, on_board_from}
use Rattle.game_rules.proofs.Squares.{agree, has_where, where_on}
use Rattle.board_squares.specs.Words.{has_bit, squares_of, word_of}
use Rattle.board_squares.specs.declared.mask.TheConstants.{LOWEST_SQUARES, ODD_ROWS}
use Rattle.board_squares.proofs.Words.{IsWord, word_is_word, word_has}
use Rattle.board_squares.proofs.Masks.{bit_cases, word_set, without, without_word, without_bit}

-- ---- the lowest row, and the odd rows

abbrev is_lowest : Square → Bool
is_lowest u = u.1 == 1

-- the constant is the number of the lowest row
lowest_number : word_of (squares_where is_lowest) ≡ LOWEST_SQUARES
unfolding squares_where squares_of_board
lowest_number = refl

lowest_bit : (u : Square) → on_board widest u ≡ true → has_bit LOWEST_SQUARES u ≡ is_lowest u
lowest_bit u on = ap (λ n. has_bit n u) (sym lowest_number) ∙ word_has is_lowest u on

abbrev pub in_odd_row : Square → Bool
in_odd_row u = on_board widest u && ((u.1 % 2) == 1)

-- the constant is the number of the odd rows
odd_number : word_of (squares_where in_odd_row) ≡ ODD_ROWS
unfolding squares_where squares_of_board
odd_number = refl

pub odd_word : IsWord ODD_ROWS
odd_word = subst IsWord odd_number (word_is_word in_odd_row)

pub odd_set : IsSetOf in_odd_row (squares_of ODD_ROWS)
odd_set = word_set in_odd_row ODD_ROWS (λ u h. (and_parts _ _ h).0) (λ u on. ap (λ n. has_bit n u) (sym odd_number) ∙ word_has in_odd_row u on)

-- ---- one row lower

-- the bits of the squares directly below those of a number
abbrev pub lowered : ℕ → ℕ
lowered n = without n LOWEST_SQUARES / 2

abbrev pub is_below : ℕ → Square → Bool
is_below n u = nat_le 1 u.1 && has_square (squares_of n) (u.0, u.1 + 1)

module _ (n : ℕ) (word : IsWord n) where
  -- without its lowest squares
  kept : IsWord (without n LOWEST_SQUARES)
  kept = without_word n LOWEST_SQUARES word

  -- a lowest square has gone
  gone : (c : ℕ) → bit_at (without n LOWEST_SQUARES) (11 * c) ≡ 0
  gone c = elim (cases_lt c 10) [
    | inr past ↦ let word = kept in bit_at_above (without n LOWEST_SQUARES) 110 (11 * c) word.low (omega arith)
    | inl within ↦
        let on : on_board widest (c, 1) ≡ true = on_board_from widest c 1 within (omega arith) (omega arith) in
        let lacks : has_bit (without n LOWEST_SQUARES) (c, 1) ≡ false = without_bit n LOWEST_SQUARES (c, 1) (omega arith) on
        ∙ ap (λ b. has_bit n (c, 1) && not b) (lowest_bit (c, 1) on) ∙ last (has_bit n (c, 1)) in
        ap (bit_at (without n LOWEST_SQUARES)) (let e : 11 * c ≡ 11 * c + 1 - 1 = omega arith in e)
        ∙ none (bit_cases (without n LOWEST_SQUARES) (11 * c + 1 - 1)) lacks
  ]
    where
      last : (b : Bool) → (b && not true) ≡ false
      last true = refl
      last false = refl

      none : {b : ℕ} → (b ≡ 0) ⊎ (b ≡ 1) → (b == 1) ≡ false → b ≡ 0
      none (inl zero_bit) h = zero_bit
      none (inr one_bit) h = absurd (both_ways _ h (eq-eqb _ 1 one_bit))

  -- no bit falls into the gap of the column before
  pub lowered_word : IsWord (lowered n)
  lowered_word = record {
    low = let word = kept in let low = word.low in omega (arith, low);
    gaps = λ c. sym (bit_at-suc (without n LOWEST_SQUARES) (11 * c + 10))
        ∙ ap (bit_at (without n LOWEST_SQUARES)) (let e : suc (11 * c + 10) ≡ 11 * (c + 1) = omega arith in e) ∙ gone (c + 1);
  }

  -- a square's bit is that of the square above it
  lowered_bit : (u : Square) → on_board widest u ≡ true → has_bit (lowered n) u ≡ is_below n u
  lowered_bit (c, r) on =
      let parts = on_board_parts widest c r on in
      ap (λ b. b == 1) (sym (bit_at-suc (without n LOWEST_SQUARES) (11 * c + r - 1))
      ∙ ap (bit_at (without n LOWEST_SQUARES)) (let e : suc (11 * c + r - 1) ≡ 11 * c + (r + 1) - 1 = omega arith in e))
      ∙ above (omega arith) (cases_lt r 10)
      ∙ ap (λ b. b && has_square (squares_of n) (c, r + 1)) (sym (le-leb 1 r (omega arith)))
    where
      not_low : (b x : Bool) → x ≡ false → (b && not x) ≡ b
      not_low true x none = rw none refl
      not_low false x none = refl

      above : (1 ≤ r) → (r < 10) ⊎ (10 ≤ r) → has_bit (without n LOWEST_SQUARES) (c, r + 1) ≡ has_square (squares_of n) (c, r + 1)
      above some (inl under) =
          let parts = on_board_parts widest c r on in
          let next : on_board widest (c, r + 1) ≡ true = on_board_from widest c (r + 1) parts.0 (omega arith) (omega arith) in
          without_bit n LOWEST_SQUARES (c, r + 1) (omega arith) next
          ∙ not_low (has_bit n (c, r + 1)) _ (lowest_bit (c, r + 1) next ∙ ne_eqb (r + 1) 1 (λ same. omega arith))
          ∙ sym (has_where (has_bit n) (c, r + 1) next)
      above some (inr top) =
          let parts = on_board_parts widest c r on in
          let word = kept in
          ne_eqb (bit_at (without n LOWEST_SQUARES) (11 * c + (r + 1) - 1)) 1 (λ set.
          let gap : bit_at (without n LOWEST_SQUARES) (11 * c + (r + 1) - 1)
          ≡ 0 = ap (bit_at (without n LOWEST_SQUARES)) (let e : 11 * c + (r + 1) - 1 ≡ 11 * c + 10 = omega arith in e) ∙ word.gaps c in
          omega (arith, gap, set))
          ∙ sym (false_from_ne_true (has_square (squares_of n) (c, r + 1))
          (λ has. let high = on_board_parts widest c (r + 1) (where_on (has_bit n) (c, r + 1) has) in omega arith))

  pub lowered_set : IsSetOf (is_below n) (squares_of (lowered n))
  lowered_set = word_set (is_below n) (lowered n)
      (λ (c, r) h.
      let both = and_parts (nat_le 1 r) (has_square (squares_of n) (c, r + 1)) h in
      let high = on_board_parts widest c (r + 1) (where_on (has_bit n) (c, r + 1) both.1) in
      on_board_from widest c r high.0 (leb-true 1 r both.0) (omega arith))
      lowered_bit

-- ---- a part of one column

-- what the code computes: so many ones, moved down to the low row and up to its place
abbrev pub part_of : ℕ → ℕ → ℕ → ℕ
part_of place low high = (1 * 2 ^ high % 2 ^ 128 - 1) / 2 ^ (low - 1) * 2 ^ place % 2 ^ 128

module _ (c low high : ℕ) (within : c < 10) (least : 1 ≤ low) (low_most : low ≤ 10) (high_most : high ≤ 10) where
  abbrev pub is_part : Square → Bool
  is_part u = (u.0 == c) && (nat_le low u.1 && nat_le u.1 high)

  -- the ones from the low row's place up to the high row's
  abbrev run : ℕ
  run = 2 ^ (11 * c + high) - 2 ^ (11 * c + low - 1)

  run_small : run < 2 ^ 110
  run_small = let most = pow_below (11 * c + high) 110 (omega arith) in omega (arith, most)

  -- the ones that are moved are that run, and none where the high row is lower
  rows_are : (2 ^ high - 1) / 2 ^ (low - 1) * 2 ^ (11 * c + low - 1) ≡ run
  rows_are = elim (cases_lt high low) [
    | inl empty ↦
        let none : (2 ^ high - 1) / 2 ^ (low - 1)
        ≡ 0 = div-eq_of_lt (let less = pow_le high (low - 1) (omega arith) in let some = pow_pos high in omega (arith, less, some)) in
        let less = pow_le (11 * c + high) (11 * c + low - 1) (omega arith) in
        ap (λ n. n * 2 ^ (11 * c + low - 1)) none ∙ omega (arith, less)
    | inr some ↦
        let power : 2 ^ (high - (low - 1)) * 2 ^ (11 * c + low - 1) ≡ 2 ^ (11 * c + high) = sym (pow-add 2 (high - (low - 1)) (11 * c + low - 1))
        ∙ ap (λ e. 2 ^ e) (let e : high - (low - 1) + (11 * c + low - 1) ≡ 11 * c + high = omega arith in e) in
        let one_less : 2 ^ (high - (low - 1)) - 1 + 1 ≡ 2 ^ (high - (low - 1)) = let positive = pow_pos (high - (low - 1)) in omega (arith, positive) in
        let whole : (2 ^ (high - (low - 1)) - 1) * 2 ^ (11 * c + low - 1) + 1 * 2 ^ (11 * c + low - 1) ≡ 2 ^ (11 * c + high) =
        sym (add-mul (2 ^ (high - (low - 1)) - 1) 1 (2 ^ (11 * c + low - 1))) ∙ ap (λ n. n * 2 ^ (11 * c + low - 1)) one_less ∙ power in
        ap (λ n. n * 2 ^ (11 * c + low - 1)) (ones_shr high (low - 1) (omega arith)) ∙ omega (arith, whole)
  ]
    where
      pow_le : (i j : ℕ) → i ≤ j → 2 ^ i ≤ 2 ^ j
      pow_le i j h = elim (cases_lt i j) [
        | inl less ↦ let below = pow_below i j less in omega (arith, below)
        | inr more ↦ let same : 2 ^ i
            ≡ 2 ^ j = ap (λ e. 2 ^ e) (omega arith) in omega (arith, same)
      ]

  part_is : part_of (11 * c + low - 1) low high ≡ run
  part_is =
      let small = run_small in
      ap (λ n. (n - 1) / 2 ^ (low - 1) * 2 ^ (11 * c + low - 1) % 2 ^ 128) (one_shl high 128 (omega arith))
      ∙ ap (λ n. n % 2 ^ 128) rows_are
      ∙ omega (arith, small)

  -- the run ends below its column's gap
  run_gap : (d : ℕ) → bit_at run (11 * d + 10) ≡ 0
  run_gap d = elim (cases_lt (11 * d + 10) (11 * c + low - 1)) [
    | inl under ↦ bit_at_mask_below (11 * c + low - 1) (11 * c + high) (11 * d + 10) under
    | inr not_under ↦ bit_at_mask_above (11 * c + low - 1) (11 * c + high) (11 * d + 10) (omega arith)
  ]

  run_word : IsWord run
  run_word = record { low = run_small; gaps = run_gap }

  -- the bits of the run are those of the part's squares
  run_bit : (u : Square) → on_board widest u ≡ true → has_bit run u ≡ is_part u
  run_bit (d, r) on = let parts = on_board_parts widest d r on in agree _ _
      (λ has.
      let set : bit_at run (11 * d + r - 1) ≡ 1 = eqb-true _ 1 has in
      let above : 11 * c + low - 1 ≤ 11 * d + r - 1 = elim (cases_lt (11 * d + r - 1) (11 * c + low - 1)) [
        | inl under ↦ absurd (let none = bit_at_mask_below (11 * c + low - 1) (11 * c + high) (11 * d + r - 1) under in omega (arith, none, set))
        | inr over ↦ over
      ] in
      let below : 11 * d + r - 1 < 11 * c + high = elim (cases_lt (11 * d + r - 1) (11 * c + high)) [
        | inl under ↦ under
        | inr over ↦ absurd (let none = bit_at_mask_above (11 * c + low - 1) (11 * c + high) (11 * d + r - 1) over in omega (arith, none, set))
      ] in
      and_from _ _ (eq-eqb d c (omega arith)) (and_from _ _ (le-leb low r (omega arith)) (le-leb r high (omega arith))))
      (λ h.
      let first = and_parts (d == c) (nat_le low r && nat_le r high) h in
      let second = and_parts (nat_le low r) (nat_le r high) first.1 in
      let same = eqb-true d c first.0 in
      let above = leb-true low r second.0 in
      let below = leb-true r high second.1 in
      eq-eqb _ 1 (bit_at_mask_inside (11 * c + low - 1) (11 * c + high) (11 * d + r - 1) (omega arith) (omega arith)))

  pub part_word : IsWord (part_of (11 * c + low - 1) low high)
  part_word = subst IsWord (sym part_is) run_word

  pub part_set : IsSetOf is_part (squares_of (part_of (11 * c + low - 1) low high))
  part_set = subst (λ n. IsSetOf is_part (squares_of n)) (sym part_is) (word_set is_part run
      (λ (d, r) h.
      let first = and_parts (d == c) (nat_le low r && nat_le r high) h in
      let second = and_parts (nat_le low r) (nat_le r high) first.1 in
      let same = eqb-true d c first.0 in
      let above = leb-true low r second.0 in
      let below = leb-true r high second.1 in
      on_board_from widest d r (omega arith) (omega arith) (omega arith))
      run_bit)
