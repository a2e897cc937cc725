-- Which bits the number of a set of squares has, and that they give the set back.
use Rattle.std.proofs.Common.{◌≡◌, ℕ, zero, suc, ◌+◌, ◌-◌, ◌*◌, ◌/◌, ◌%◌, ◌^◌, ◌<◌, Bool, true, false, cond, ◌==◌, List, [], ◌∷◌, map, filter, sum_by, refl}
use Rattle.std.proofs.Common.{sym, ap, ◌∙◌, subst, inl, inr, arith, add-one}
use Rattle.std.specs.List.{range_with_len, flat_map}
use Rattle.std.specs.Int.{bit_at}
use Rattle.std.specs.Int.RustNames.{count_ones}
use Rattle.std.proofs.Math.Nat.{add-mul, mul_assoc}
use Rattle.std.proofs.lemmas.Nat.{pow-add, shr-shr, shr_split}
use Rattle.std.proofs.lemmas.Nat.Bits.{bit_at-lt, bit_at_above, bit_at_cat_low, same_from_bits_below}
use Rattle.std.proofs.lemmas.List.Sums.{sum_by-cons, sum_by-append}
use Rattle.std.proofs.lemmas.List.Elements.{filter-append}
use Rattle.std.proofs.lemmas.Bool.{cases_Bool, cases_lt}
use Rattle.game_rules.specs.Board.{Square, below, on_board}
use Rattle.game_rules.specs.Squares.{squares_in_column, squares_of_board, squares_where, widest}
use Rattle.game_rules.proofs.Ends.{on_board_parts}
use Rattle.board_squares.specs.Words.{has_bit, squares_of, word_of}
use Rattle.board_squares.proofs.Digits.{number, sum_number, number_below, digit, ones_number}

abbrev power : Square → ℕ
power s = 2 ^ (11 * s.0 + s.1 - 1)

-- the eleven bits of a column
pub column_of : (n c i : ℕ) → i < 11 → bit_at n (11 * c + i) ≡ bit_at (n / 2 ^ (11 * c) % 2 ^ 11) i
column_of n c i low =
    ap (λ m. m % 2) (sym (shr-shr n (11 * c) i))
    ∙ ap (λ m. bit_at m i) (sym (shr_split (n / 2 ^ (11 * c)) 11))
    ∙ bit_at_cat_low (n / 2 ^ (11 * c) / 2 ^ 11) 11 (n / 2 ^ (11 * c) % 2 ^ 11) i low

module _ (test : Square → Bool) where
  abbrev pub row_bit : ℕ → ℕ → ℕ
  row_bit c i = cond (test (c, i + 1)) 1 0

  row_bit_small : (c i : ℕ) → row_bit c i < 2 ^ 1
  row_bit_small c i = elim (cases_Bool (test (c, i + 1))) [ inl passes ↦ rw passes (omega arith) | inr fails ↦ rw fails (omega arith) ]

  unfoldable pub column : ℕ → ℕ
  column c = number 1 (row_bit c) 0 10

  column_low : (c : ℕ) → column c < 2 ^ 10
  unfolding column
  column_low c = number_below 1 (row_bit c) (row_bit_small c) 0 10

  column_small : (c : ℕ) → column c < 2 ^ 11
  column_small c = let low = column_low c in omega (arith, low)

  column_bit : (c i : ℕ) → i < 10 → bit_at (column c) i ≡ row_bit c i
  unfolding column
  column_bit c i low =
      ap (λ e. number 1 (row_bit c) 0 10 / 2 ^ e % 2) (let e : i ≡ 1 * i = omega arith in e)
      ∙ digit 1 (row_bit c) (row_bit_small c) 10 0 i low
      ∙ ap (row_bit c) (let e : 0 + i ≡ i = omega arith in e)

  filter_step : (u : Square) (us : List Square) → sum_by power (filter test (u ∷ us)) ≡ cond (test u) 1 0 * power u + sum_by power (filter test us)
  filter_step u us = elim (cases_Bool (test u)) [
    | inl passes ↦ rw passes (sum_by-cons power u (filter test us) ∙ omega arith)
    | inr fails ↦ rw fails (omega arith)
  ]

  rows_sum : (c m a : ℕ) → sum_by power (filter test (map (λ i. (c, i + 1)) (range_with_len a m)))
      ≡ sum_by (λ i. row_bit c i * 2 ^ (1 * i)) (range_with_len a m) * 2 ^ (11 * c)
  rows_sum c zero a = omega arith
  rows_sum c (suc m) a =
      let here : power (c, a + 1) ≡ 2 ^ (1 * a) * 2 ^ (11 * c) = ap (λ e. 2 ^ e) (let e : 11 * c + (a + 1) - 1 ≡ 1 * a + 11 * c = omega arith in e)
      ∙ pow-add 2 (1 * a) (11 * c) in
      filter_step (c, a + 1) (map (λ i. (c, i + 1)) (range_with_len (a + 1) m))
      ∙ ap (λ n. row_bit c a * power (c, a + 1) + n) (rows_sum c m (a + 1))
      ∙ ap (λ n. n + sum_by (λ i. row_bit c i * 2 ^ (1 * i)) (range_with_len (a + 1) m) * 2 ^ (11 * c))
      (ap (λ n. row_bit c a * n) here ∙ sym (mul_assoc (row_bit c a) (2 ^ (1 * a)) (2 ^ (11 * c))))
      ∙ sym (add-mul (row_bit c a * 2 ^ (1 * a)) (sum_by (λ i. row_bit c i * 2 ^ (1 * i)) (range_with_len (a + 1) m)) (2 ^ (11 * c)))
      ∙ ap (λ n. n * 2 ^ (11 * c)) (sym (sum_by-cons (λ i. row_bit c i * 2 ^ (1 * i)) a (range_with_len (a + 1) m)))

  column_sum : (c : ℕ) → sum_by power (filter test (squares_in_column 10 c)) ≡ column c * 2 ^ (11 * c)
  unfolding column
  column_sum c = rows_sum c 10 0 ∙ ap (λ n. n * 2 ^ (11 * c)) (sum_number 1 (row_bit c) 10 0 ∙ omega arith)

  columns_sum : (cs : List ℕ) → sum_by power (filter test (flat_map (squares_in_column 10) cs)) ≡ sum_by (λ c. column c * 2 ^ (11 * c)) cs
  columns_sum [] = refl
  columns_sum (c ∷ cs) =
      ap (sum_by power) (filter-append test (squares_in_column 10 c) (flat_map (squares_in_column 10) cs))
      ∙ sum_by-append power (filter test (squares_in_column 10 c)) (filter test (flat_map (squares_in_column 10) cs))
      ∙ ap (λ n. n + sum_by power (filter test (flat_map (squares_in_column 10) cs))) (column_sum c)
      ∙ ap (λ n. column c * 2 ^ (11 * c) + n) (columns_sum cs)
      ∙ sym (sum_by-cons (λ c. column c * 2 ^ (11 * c)) c cs)

  pub word_number : word_of (squares_where test) ≡ number 11 column 0 10
  unfolding squares_where squares_of_board
  word_number = columns_sum (below 10) ∙ sum_number 11 column 10 0 ∙ omega arith

  word_low : word_of (squares_where test) < 2 ^ 110
  word_low = subst (λ n. n < 2 ^ 110) (sym word_number) (number_below 11 column column_small 0 10)

  word_column : (c : ℕ) → c < 10 → word_of (squares_where test) / 2 ^ (11 * c) % 2 ^ 11 ≡ column c
  word_column c within =
      ap (λ n. n / 2 ^ (11 * c) % 2 ^ 11) word_number
      ∙ digit 11 column column_small 10 0 c within
      ∙ ap column (let e : 0 + c ≡ c = omega arith in e)

  -- the bit of a square of the widest board says whether it passes
  pub word_bit : (c i : ℕ) → c < 10 → i < 10 → bit_at (word_of (squares_where test)) (11 * c + i) ≡ cond (test (c, i + 1)) 1 0
  word_bit c i within low =
      column_of (word_of (squares_where test)) c i (omega arith)
      ∙ ap (λ n. bit_at n i) (word_column c within)
      ∙ column_bit c i low

  pub word_has : (u : Square) → on_board widest u ≡ true → has_bit (word_of (squares_where test)) u ≡ test u
  word_has (c, zero) on = absurd (let parts = on_board_parts widest c 0 on in omega arith)
  word_has (c, suc i) on =
      let parts = on_board_parts widest c (suc i) on in
      ap (λ b. b == 1) (ap (bit_at (word_of (squares_where test))) (let e : 11 * c + suc i - 1 ≡ 11 * c + i = omega arith in e)
      ∙ word_bit c i (omega arith) (omega arith))
      ∙ ap (λ r. cond (test (c, r)) 1 0 == 1) (add-one i)
      ∙ one_where (test (c, suc i))
    where
      one_where : (b : Bool) → (cond b 1 0 == 1) ≡ b
      one_where true = refl
      one_where false = refl

  word_gap : (c : ℕ) → bit_at (word_of (squares_where test)) (11 * c + 10) ≡ 0
  word_gap c = elim (cases_lt c 10) [
    | inl within ↦
        column_of (word_of (squares_where test)) c 10 (omega arith)
        ∙ ap (λ n. bit_at n 10) (word_column c within)
        ∙ bit_at_above (column c) 10 10 (column_low c) (omega arith)
    | inr past ↦ bit_at_above (word_of (squares_where test)) 110 (11 * c + 10) word_low (omega arith)
  ]

-- only squares of the widest board have bits
pub record IsWord (n : ℕ) : Type 0 where
  pub low : n < 2 ^ 110
  pub gaps : (c : ℕ) → bit_at n (11 * c + 10) ≡ 0

pub word_is_word : (test : Square → Bool) → IsWord (word_of (squares_where test))
word_is_word test = record { low = word_low test; gaps = word_gap test }

pub bit_cond : (b : ℕ) → b < 2 → cond (b == 1) 1 0 ≡ b
bit_cond zero h = refl
bit_cond (suc zero) h = refl
bit_cond (suc (suc b)) h = absurd (omega arith)

-- a word is the number of its squares
pub word_back : (n : ℕ) → IsWord n → word_of (squares_of n) ≡ n
word_back n word = same_from_bits_below 110 (word_of (squares_of n)) n (word_low (has_bit n)) word.low (λ i low.
    let split : 11 * (i / 11) + i % 11 ≡ i = omega arith in
    ap (bit_at (word_of (squares_of n))) (sym split) ∙ at (i / 11) (i % 11) (omega arith) (omega arith) ∙ ap (bit_at n) split)
  where
    at : (c r : ℕ) → c < 10 → r < 11 → bit_at (word_of (squares_of n)) (11 * c + r) ≡ bit_at n (11 * c + r)
    at c r within low = elim (cases_lt r 10) [
      | inl under ↦
          word_bit (has_bit n) c r within under
          ∙ bit_cond (bit_at n (11 * c + (r + 1) - 1)) (bit_at-lt n (11 * c + (r + 1) - 1))
          ∙ ap (bit_at n) (let e : 11 * c + (r + 1) - 1 ≡ 11 * c + r = omega arith in e)
      | inr top ↦
          let last : 11 * c + r ≡ 11 * c + 10 = omega arith in
          ap (bit_at (word_of (squares_of n))) last ∙ word_gap (has_bit n) c ∙ sym (word.gaps c) ∙ ap (bit_at n) (sym last)
    ]

-- the ones of a word, column by column
pub word_ones : (n : ℕ) → IsWord n → count_ones n ≡ sum_by (λ c. count_ones (column (has_bit n) c)) (below 10)
word_ones n word = ap count_ones (sym (word_back n word) ∙ word_number (has_bit n)) ∙ ones_number 11 (column (has_bit n)) (column_small (has_bit n)) 10 0

pub own_column : (n : ℕ) → IsWord n → (c : ℕ) → c < 10 → column (has_bit n) c ≡ n / 2 ^ (11 * c) % 2 ^ 11
own_column n word c within = sym (word_column (has_bit n) c within) ∙ ap (λ m. m / 2 ^ (11 * c) % 2 ^ 11) (word_back n word)
