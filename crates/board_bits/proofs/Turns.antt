-- The words of a position's image: those of its men with the columns in the other order.
use Rattle.std.proofs.Common.{◌≡◌, ℕ, zero, suc, ◌+◌, ◌-◌, ◌*◌, ◌/◌, ◌%◌, ◌^◌, ◌<◌, ◌≤◌, cond, true, false, [], None, length, refl, sym, ap, ◌∙◌}
use Rattle.std.proofs.Common.{subst, inl, inr, arith, add-one}
use Rattle.std.specs.Int.{bit_at}
use Rattle.std.proofs.Math.Nat.{pow-le-pow_right, div-le_self}
use Rattle.std.proofs.lemmas.Nat.{shr-shr}
use Rattle.std.proofs.lemmas.Nat.Bits.{bit_at_above, same_from_bits_below}
use Rattle.std.proofs.lemmas.Bool.{cases_lt}
use Rattle.std.proofs.lemmas.List.{get_or_past}
use Rattle.game_rules.specs.Board.{is_board}
use Rattle.game_rules.specs.Position.{Position, board_of, has_man, is_man, man_in, IsStacked}
use Rattle.game_rules.specs.Mirror.{mirror, mirror_column}
use Rattle.game_rules.specs.declared.Side.{Side}
use Rattle.game_rules.specs.declared.Side.TheVariants.{White, Black}
use Rattle.game_rules.proofs.Groups.{board_most}
use Rattle.game_rules.proofs.Images.{board_mirrored, cols_mirrored, man_mirrored, stacked_mirrored}
use Rattle.board_bits.specs.MenWords.{side_word}
use Rattle.board_bits.specs.PositionFields.{men_of, fields_of, IsSound}
use Rattle.board_bits.specs.Turned.{turned, image_word}
use Rattle.board_bits.specs.declared.position.Position.TheInside.{Inside}
use Rattle.board_squares.proofs.Digits.{number, number_none, number_more, number_same, number_below, digit}
use Rattle.board_squares.proofs.Words.{word_is_word, word_bit, column_of}
use Rattle.board_bits.proofs.Positions.{kept_sound, kept_men}

-- ---- numbers

-- a column of a word
abbrev part : ℕ → ℕ → ℕ
part word c = word / 2 ^ (11 * c) % 2 ^ 11

part_small : (word c : ℕ) → part word c < 2 ^ 11
part_small word c = omega arith

-- the columns of the word, the last of them first
turned_number : (word n : ℕ) → turned word n ≡ number 11 (λ i. part word (n - (i + 1))) 0 n
unfolding turned
turned_number word zero = sym (number_none 11 (λ i. part word (0 - (i + 1))) 0)
turned_number word (suc n) =
    ap (λ m. m * 2 ^ 11 + part word n) (turned_number word n
    ∙ number_same 11 (λ i. part word (n - (i + 1))) (λ i. part word (suc n - (i + 1))) n 0 1 (λ i low.
    ap (part word) (let e : n - (0 + i + 1) ≡ suc n - (1 + i + 1) = omega arith in e)))
    ∙ ap (λ m. number 11 (λ i. part word (suc n - (i + 1))) 1 n * 2 ^ 11 + part word m) (let e : n ≡ suc n - (0 + 1) = omega arith in e)
    ∙ sym (number_more 11 (λ i. part word (suc n - (i + 1))) 0 n)
    ∙ ap (number 11 (λ i. part word (suc n - (i + 1))) 0) (add-one n)

pub turned_none : (word : ℕ) → turned word 0 ≡ 0
unfolding turned
turned_none word = refl

turned_below : (word n : ℕ) → turned word n < 2 ^ (11 * n)
turned_below word n = subst (λ m. m < 2 ^ (11 * n)) (sym (turned_number word n))
    (number_below 11 (λ i. part word (n - (i + 1))) (λ i. part_small word (n - (i + 1))) 0 n)

-- a further column fits
pub turned_fits : (word n : ℕ) → n < 10 → turned word n < 2 ^ 99
turned_fits word n low =
    let below = turned_below word n in let most : 2 ^ (11 * n) ≤ 2 ^ 99 = pow-le-pow_right {n = 2} (omega arith) {i = 11 * n} {j = 99} (omega arith) in
    omega (arith, below, most)

pub turned_more : (word n : ℕ) → turned word n * 2048 + word / 2 ^ (11 * n) % 2048 ≡ turned word (n + 1)
unfolding turned
turned_more word n = rw (add-one n) refl

turned_bit : (word c i : ℕ) → c < 10 → i < 11 → bit_at (turned word 10) (11 * c + i) ≡ bit_at word (11 * (9 - c) + i)
turned_bit word c i within low =
    column_of (turned word 10) c i low
    ∙ ap (λ n. bit_at (n / 2 ^ (11 * c) % 2 ^ 11) i) (turned_number word 10)
    ∙ ap (λ n. bit_at n i) (digit 11 (λ i. part word (10 - (i + 1))) (λ i. part_small word (10 - (i + 1))) 10 0 c within)
    ∙ ap (λ n. bit_at (part word n) i) (let e : 10 - (0 + c + 1) ≡ 9 - c = omega arith in e)
    ∙ sym (column_of word (9 - c) i low)

-- the bits of the image: those of the columns as far from the other side, and none beyond the board
image_shift : (word cols place : ℕ) → bit_at (image_word word cols) place ≡ bit_at (turned word 10) (11 * (10 - cols) + place)
image_shift word cols place = ap (λ n. n % 2) (shr-shr (turned word 10) (11 * (10 - cols)) place)

image_bit : (word cols c i : ℕ) → cols ≤ 10 → c < cols → i < 11 → bit_at (image_word word cols) (11 * c + i) ≡ bit_at word (11 * mirror_column cols c + i)
image_bit word cols c i wide within low =
    image_shift word cols (11 * c + i)
    ∙ ap (bit_at (turned word 10)) (let e : 11 * (10 - cols) + (11 * c + i) ≡ 11 * (10 - cols + c) + i = omega arith in e)
    ∙ turned_bit word (10 - cols + c) i (omega arith) low
    ∙ ap (λ n. bit_at word (11 * n + i)) (let e : 9 - (10 - cols + c) ≡ cols - (c + 1) = omega arith in e)

image_past : (word cols c i : ℕ) → cols ≤ 10 → cols ≤ c → bit_at (image_word word cols) (11 * c + i) ≡ 0
image_past word cols c i wide past =
    image_shift word cols (11 * c + i)
    ∙ bit_at_above (turned word 10) 110 (11 * (10 - cols) + (11 * c + i)) (turned_below word 10) (omega arith)

image_below : (word cols : ℕ) → image_word word cols < 2 ^ 110
image_below word cols =
    let below = turned_below word 10 in let less = div-le_self (turned word 10) (2 ^ (11 * (10 - cols))) in omega (arith, below, less)

-- ---- men

module _ (p : Position) (board : is_board (board_of p) ≡ true) (stacked : IsStacked p) where
  wide : length p.columns ≤ 10
  wide = (board_most (board_of p) board).0

  -- the image of a side's word is the word of its men in the image
  turned_word : (side : Side) → image_word (side_word p side) (length p.columns) ≡ side_word (mirror p) side
  turned_word side = same_from_bits_below 110 _ _ (image_below (side_word p side) (length p.columns)) (word_is_word (has_man (mirror p) side)).low (λ i low.
      let split : 11 * (i / 11) + i % 11 ≡ i = omega arith in
      ap (bit_at (image_word (side_word p side) (length p.columns))) (sym split)
      ∙ at (i / 11) (i % 11) (omega arith) (omega arith)
      ∙ ap (bit_at (side_word (mirror p) side)) split)
    where
      beyond : (c r : ℕ) → length p.columns ≤ c → has_man (mirror p) side (c, r) ≡ false
      beyond c r past = ap (λ men. is_man side (man_in men r)) (get_or_past (mirror p).columns c [] (omega (arith, cols_mirrored p, past)))
          ∙ ap (is_man side) (nobody r)
        where
          nobody : (r : ℕ) → man_in [] r ≡ None
          nobody zero = refl
          nobody (suc r) = refl

      seen : (c r : ℕ) → c < length p.columns → has_man p side (mirror_column (length p.columns) c, r) ≡ has_man (mirror p) side (c, r)
      seen c r within = ap (is_man side) (sym (man_mirrored p (mirror_column (length p.columns) c, r) (omega arith)))
          ∙ ap (λ d. has_man (mirror p) side (d, r))
          (let e : length p.columns - (length p.columns - (c + 1) + 1) ≡ c = omega arith in e)

      at : (c r : ℕ) → c < 10 → r < 11 → bit_at (image_word (side_word p side) (length p.columns)) (11 * c + r)
          ≡ bit_at (side_word (mirror p) side) (11 * c + r)
      at c r within low = elim (cases_lt c (length p.columns)) [
        | inl inside ↦ image_bit (side_word p side) (length p.columns) c r wide inside low ∙ elim (cases_lt r 10) [
          | inl row ↦
              word_bit (has_man p side) (mirror_column (length p.columns) c) r (let most = wide in omega arith) row
              ∙ ap (λ b. cond b 1 0) (seen c (r + 1) inside)
              ∙ sym (word_bit (has_man (mirror p) side) c r within row)
          | inr top ↦
              let last : r ≡ 10 = omega arith in
              ap (λ r. bit_at (side_word p side) (11 * mirror_column (length p.columns) c + r)) last
              ∙ (word_is_word (has_man p side)).gaps (mirror_column (length p.columns) c)
              ∙ sym ((word_is_word (has_man (mirror p) side)).gaps c)
              ∙ ap (λ r. bit_at (side_word (mirror p) side) (11 * c + r)) (sym last)
        ]
        | inr outside ↦ image_past (side_word p side) (length p.columns) c r wide outside ∙ elim (cases_lt r 10) [
          | inl row ↦ ap (λ b. cond b 1 0) (sym (beyond c (r + 1) outside)) ∙ sym (word_bit (has_man (mirror p) side) c r within row)
          | inr top ↦
              let last : r ≡ 10 = omega arith in
              sym ((word_is_word (has_man (mirror p) side)).gaps c) ∙ ap (λ r. bit_at (side_word (mirror p) side) (11 * c + r)) (sym last)
        ]
      ]

  image_fields : fields_of (mirror p)
      ≡ record { size = board_of p; white = image_word (side_word p White) (length p.columns); black = image_word (side_word p Black) (length p.columns) }
  image_fields =
      ap (λ b. record { size = b; white = side_word (mirror p) White; black = side_word (mirror p) Black }) (board_mirrored p)
      ∙ ap (λ n. record { size = board_of p; white = n; black = side_word (mirror p) Black }) (sym (turned_word White))
      ∙ ap (λ n. record { size = board_of p; white = image_word (side_word p White) (length p.columns); black = n }) (sym (turned_word Black))

  image_stacked : IsStacked (mirror p)
  image_stacked = stacked_mirrored p stacked

  image_board : is_board (board_of (mirror p)) ≡ true
  image_board = ap is_board (board_mirrored p) ∙ board

-- the fields of the image
module _ (a : Inside) (p : Position) (shown : men_of a ≡ p) (sound : IsSound a) (cols white black : ℕ) (all : cols ≡ a.size.cols)
    (of_white : white ≡ image_word a.white cols) (of_black : black ≡ image_word a.black cols) where
  fields_is : fields_of p ≡ a
  fields_is = ap fields_of (sym shown) ∙ sound.fields_back

  board_is : is_board (board_of p) ≡ true
  board_is = ap (λ (b : Inside). is_board b.size) fields_is ∙ sound.board

  stacked_is : IsStacked p
  stacked_is = subst IsStacked shown sound.stacked

  fields_turned : fields_of (mirror p) ≡ record a { white = white; black = black }
  fields_turned =
      image_fields p board_is stacked_is
      ∙ ap (λ (b : Inside). record b { white = image_word b.white b.size.cols; black = image_word b.black b.size.cols }) fields_is
      ∙ ap (λ n. record a { white = image_word a.white n; black = image_word a.black n }) (sym all)
      ∙ ap (λ n. record a { white = n; black = image_word a.black cols }) (sym of_white)
      ∙ ap (λ n. record a { white = white; black = n }) (sym of_black)

  pub image_sound : IsSound (record a { white = white; black = black })
  image_sound = kept_sound (mirror p) (image_board p board_is stacked_is) (image_stacked p board_is stacked_is) _ fields_turned

  pub image_men : men_of (record a { white = white; black = black }) ≡ mirror p
  image_men = kept_men (mirror p) (image_board p board_is stacked_is) (image_stacked p board_is stacked_is) _ fields_turned
