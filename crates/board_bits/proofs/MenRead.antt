-- The number of a position's men gives the position back.
use Rattle.std.proofs.Common.{◌≡◌, ℕ, zero, suc, ◌+◌, ◌*◌, ◌/◌, ◌%◌, ◌^◌, ◌<◌, ◌≤◌, true, cond, ◌==◌, List, [], ◌∷◌, length, map}
use Rattle.std.proofs.Common.{Option, Some, None, refl, sym, ap, ◌∙◌, arith, add-one, slice_get}
use Rattle.std.proofs.Math.Nat.{add-mul, mul_assoc}
use Rattle.std.proofs.lemmas.Bool.{eqb-true, eq-eqb}
use Rattle.std.proofs.lemmas.List.{ext_get_or}
use Rattle.std.proofs.lemmas.List.FromFn.{get_or-map-range_with_len, length-map-range_with_len}
use Rattle.game_rules.specs.Board.{Board, below, is_board}
use Rattle.game_rules.specs.Position.{Position, board_of, men_in, man_at, is_man, has_man, same_position, IsStacked}
use Rattle.game_rules.specs.declared.Side.{Side}
use Rattle.game_rules.specs.declared.Side.TheVariants.{White, Black}
use Rattle.game_rules.proofs.Groups.{board_most}
use Rattle.game_rules.proofs.Moves.{same_position_Decides}
use Rattle.game_rules.proofs.Squares.{agree}
use Rattle.board_bits.specs.MenWords.{side_word}
use Rattle.board_bits.specs.MenNumber.{men_number, men_read, column_read, position_read, AreMen}
use Rattle.board_squares.proofs.Digits.{number, number_same, digit}
use Rattle.board_bits.proofs.Positions.{height_most}
use Rattle.board_squares.proofs.Words.{column, row_bit, word_number}

-- what a man counts at its square
abbrev counts : Option Side → ℕ
counts None = 0
counts (Some White) = 1
counts (Some Black) = 2

counts_most : (man : Option Side) → counts man ≤ 2
counts_most None = omega arith
counts_most (Some White) = omega arith
counts_most (Some Black) = omega arith

-- digits that are none
number_of_none : (d : ℕ → ℕ) (a m : ℕ) → ((i : ℕ) → d (a + i) ≡ 0) → number 1 d a m ≡ 0
unfolding number
number_of_none d a zero none = refl
number_of_none d a (suc m) none =
    let rest = number_of_none d (a + 1) m (λ i. ap d (let e : a + 1 + i ≡ a + (1 + i) = omega arith in e) ∙ none (1 + i)) in
    let first : d a ≡ 0 = ap d (let e : a ≡ a + 0 = omega arith in e) ∙ none 0 in
    omega (arith, rest, first)

-- digits of up to two in place of bits
number_most : (d : ℕ → ℕ) → ((i : ℕ) → d i ≤ 2) → (a m : ℕ) → number 1 d a m + 2 ≤ 2 * 2 ^ m
unfolding number
number_most d most a zero = omega arith
number_most d most a (suc m) = let rest = number_most d most (a + 1) m in let first = most a in omega (arith, rest, first)

-- one number and another twice are one whose digits are so
number_sum : (k : ℕ) (d e : ℕ → ℕ) (a m : ℕ) → number k d a m + 2 * number k e a m ≡ number k (λ i. d i + 2 * e i) a m
unfolding number
number_sum k d e a zero = refl
number_sum k d e a (suc m) =
    let x = number k d (a + 1) m in let y = number k e (a + 1) m in
    let spread : (x + 2 * y) * 2 ^ k ≡ x * 2 ^ k + 2 * (y * 2 ^ k) = add-mul x (2 * y) (2 ^ k) ∙ ap (λ n. x * 2 ^ k + n) (mul_assoc 2 y (2 ^ k)) in
    let rest : (x + 2 * y) * 2 ^ k ≡ number k (λ i. d i + 2 * e i) (a + 1) m * 2 ^ k = ap (λ n. n * 2 ^ k) (number_sum k d e (a + 1) m) in
    omega (arith, spread, rest)

-- the men of a column are read from what they count
men_back : (men : List Side) (most : ℕ) (d : ℕ → ℕ) (a : ℕ) → length men ≤ most → ((i : ℕ) → d (a + i) ≡ counts (slice_get men i))
    → men_read most (number 1 d a most) ≡ men
unfolding number
men_back [] zero d a few digits = refl
men_back (man ∷ men) zero d a few digits = absurd (omega arith)
men_back [] (suc most) d a few digits = ap (men_read (suc most)) (number_of_none d a (suc most) digits)
men_back (man ∷ men) (suc most) d a few digits =
    let rest : men_read most (number 1 d (a + 1) most) ≡ men = men_back men most d (a + 1) (omega arith)
    (λ i. ap d (let e : a + 1 + i ≡ a + suc i = omega arith in e) ∙ digits (suc i)) in
    let first : d a ≡ counts (Some man) = ap d (let e : a ≡ a + 0 = omega arith in e) ∙ digits 0 in
    of_man man first ∙ ap (λ men. man ∷ men) rest
  where
    of_man : (man : Side) → d a ≡ counts (Some man) → men_read (suc most) (number 1 d a (suc most)) ≡ man ∷ men_read most (number 1 d (a + 1) most)
    of_man White first =
        let x = number 1 d (a + 1) most in
        ap (men_read (suc most)) (let e : x * 2 ^ 1 + d a ≡ suc (x * 2) = omega (arith, first) in e)
        ∙ ap (λ r. cond (r == 0) White Black ∷ men_read most (x * 2 / 2)) (let e : x * 2 % 2 ≡ 0 = omega arith in e)
        ∙ ap (λ n. White ∷ men_read most n) (let e : x * 2 / 2 ≡ x = omega arith in e)
    of_man Black first =
        let x = number 1 d (a + 1) most in
        ap (men_read (suc most)) (let e : x * 2 ^ 1 + d a ≡ suc (x * 2 + 1) = omega (arith, first) in e)
        ∙ ap (λ r. cond (r == 0) White Black ∷ men_read most ((x * 2 + 1) / 2)) (let e : (x * 2 + 1) % 2 ≡ 1 = omega arith in e)
        ∙ ap (λ n. Black ∷ men_read most n) (let e : (x * 2 + 1) / 2 ≡ x = omega arith in e)

module _ (p : Position) (board : is_board (board_of p) ≡ true) (stacked : IsStacked p) where
  -- what the men of a column count
  abbrev counted : ℕ → ℕ → ℕ
  counted c i = counts (man_at p (c, suc i))

  abbrev column_count : ℕ → ℕ
  column_count c = number 1 (counted c) 0 10

  column_is : (c : ℕ) → column (has_man p White) c + 2 * column (has_man p Black) c ≡ column_count c
  unfolding column
  column_is c =
      number_sum 1 (row_bit (has_man p White) c) (row_bit (has_man p Black) c) 0 10
      ∙ number_same 1 (λ i. row_bit (has_man p White) c i + 2 * row_bit (has_man p Black) c i) (counted c) 10 0 0 (λ i low.
      ap (λ r. cond (has_man p White (c, r)) 1 0 + 2 * cond (has_man p Black (c, r)) 1 0) (add-one (0 + i)) ∙ at (man_at p (c, suc (0 + i))))
    where
      at : (man : Option Side) → cond (is_man White man) 1 0 + 2 * cond (is_man Black man) 1 0 ≡ counts man
      at None = refl
      at (Some White) = refl
      at (Some Black) = refl

  column_small : (c : ℕ) → column_count c < 2 ^ 11
  column_small c = let most = number_most (counted c) (λ i. counts_most (man_at p (c, suc i))) 0 10 in omega (arith, most)

  number_is : men_number p ≡ number 11 column_count 0 10
  number_is =
      ap (λ n. n + 2 * side_word p Black) (word_number (has_man p White))
      ∙ ap (λ n. number 11 (column (has_man p White)) 0 10 + 2 * n) (word_number (has_man p Black))
      ∙ number_sum 11 (column (has_man p White)) (column (has_man p Black)) 0 10
      ∙ number_same 11 (λ c. column (has_man p White) c + 2 * column (has_man p Black) c) column_count 10 0 0 (λ c low. column_is (0 + c))

  column_back : (c : ℕ) → c < 10 → column_read (men_number p) c ≡ men_in p c
  column_back c within =
      ap (λ n. men_read 10 (n / 2 ^ (11 * c) % 2 ^ 11)) number_is
      ∙ ap (men_read 10) (digit 11 column_count column_small 10 0 c within)
      ∙ ap (λ c. men_read 10 (column_count c)) (let e : 0 + c ≡ c = omega arith in e)
      ∙ men_back (men_in p c) 10 (counted c) 0 (height_most p board stacked c) (λ i. ap (counted c) (let e : 0 + i ≡ i = omega arith in e))

  pub position_back : position_read (board_of p) (men_number p) ≡ p
  position_back =
      let size = length-map-range_with_len (column_read (men_number p)) 0 (length p.columns) in
      let most = (board_most (board_of p) board).0 in
      ap (λ columns. record p { columns = columns })
      (ext_get_or [] (map (column_read (men_number p)) (below (length p.columns))) p.columns size (λ c low.
      let within : c < length p.columns = omega (arith, size) in
      get_or-map-range_with_len (column_read (men_number p)) 0 (length p.columns) c c [] within (omega arith)
      ∙ column_back c (omega (arith, most))))

  pub are_men : AreMen (board_of p) (men_number p)
  are_men = record { board_is = ap board_of position_back; number_back = ap men_number position_back }

-- on one board the numbers are the same exactly where the positions are
pub same_positions : (b : Board) (n m : ℕ) → AreMen b n → AreMen b m → (n == m) ≡ same_position (position_read b n) (position_read b m)
same_positions b n m of_n of_m = agree _ _
    (λ h. (same_position_Decides (position_read b n) (position_read b m)).1 (ap (position_read b) (eqb-true n m h)))
    (λ h. eq-eqb n m (sym of_n.number_back ∙ ap men_number ((same_position_Decides (position_read b n) (position_read b m)).0 h) ∙ of_m.number_back))
