-- The words of a position's men: what their bits say of its squares, its columns and its moves.
use Rattle.std.proofs.Common.{◌≡◌, ℕ, zero, suc, ◌+◌, ◌-◌, ◌*◌, ◌/◌, ◌%◌, ◌^◌, ◌<◌, ◌≤◌, max, true, not, cond, ◌&&◌, ◌||◌, ◌==◌, [], length, map, get_or}
use Rattle.std.proofs.Common.{Option, Some, None, is_none, refl, sym, ap, ◌∙◌, subst, inl, inr, arith, bit_and, bit_or, add-one}
use Rattle.std.specs.Int.{bit_at, bit_not, w128}
use Rattle.std.specs.Int.RustNames.{count_ones}
use Rattle.std.proofs.lemmas.Bool.{cases_lt, and_parts}
use Rattle.std.proofs.lemmas.Nat.{and_mask, ones_cat, pow_pos, pow_below}
use Rattle.std.proofs.lemmas.Nat.Bits.{bit_at_or, bit_at_ones, bit_at_ones_above, same_from_bits_below}
use Rattle.std.proofs.lemmas.List.{ext_get_or, get_or_past}
use Rattle.std.proofs.lemmas.List.FromFn.{get_or-map-range_with_len, length-map-range_with_len}
use Rattle.std.proofs.lemmas.Option.{slice_get-get_or}
use Rattle.game_rules.specs.Board.{Square, below, is_board, on_board, step_of, line_length}
use Rattle.game_rules.specs.Position.{Position, board_of, height, men_in, man_at, is_man, has_man, has_line, IsStacked}
use Rattle.game_rules.specs.Squares.{widest, is_empty, IsSetOf}
use Rattle.game_rules.specs.declared.Side.{Side}
use Rattle.game_rules.specs.declared.Side.TheVariants.{White, Black}
use Rattle.game_rules.proofs.Ends.{on_board_parts, on_board_from, has_line_gives, has_line_from}
use Rattle.game_rules.proofs.Groups.{board_most}
use Rattle.game_rules.proofs.Moves.{man_past, man_within}
use Rattle.game_rules.proofs.Squares.{agree, man_on_board}
use Rattle.board_squares.specs.Words.{has_bit, squares_of, board_word}
use Rattle.board_bits.specs.MenWords.{height_in, side_in, column_in, side_word}
use Rattle.board_bits.specs.PositionFields.{men_of, fields_of, IsSound}
use Rattle.board_bits.specs.declared.position.Position.TheInside.{Inside}
use Rattle.board_squares.proofs.Digits.{ones_of_zero}
use Rattle.board_squares.proofs.Words.{IsWord, word_is_word, word_bit, word_has, column_of}
use Rattle.board_squares.proofs.Masks.{union_word, union_bit, common_word, common_bit, not_bit, word_set}
use Rattle.board_squares.proofs.Runs.{Shows, run_gives, run_from, a_length}
use Rattle.board_squares.specs.Runs.{word_runs}

one_ones : count_ones 1 ≡ 1
unfolding count_ones
one_ones = refl

-- as many ones as the number says
pub ones_in : (h : ℕ) → count_ones (2 ^ h - 1) ≡ h
ones_in zero = ones_of_zero
ones_in (suc h) =
    let some = pow_pos h in
    ap count_ones (let e : 2 ^ suc h - 1 ≡ (2 ^ h - 1) * 2 ^ 1 + 1 = omega (arith, some) in e)
    ∙ ones_cat 1 (2 ^ h - 1) 1 (omega arith)
    ∙ (let first = ones_in h in let last = one_ones in omega (arith, first, last))

module _ (p : Position) (board : is_board (board_of p) ≡ true) (stacked : IsStacked p) where
  cols_most : length p.columns ≤ 10
  cols_most = (board_most (board_of p) board).0

  rows_most : p.rows ≤ 10
  rows_most = (board_most (board_of p) board).1

  -- no column is higher than ten, and one that isn't on the board has none
  pub height_most : (c : ℕ) → height p c ≤ 10
  height_most c = let most = rows_most in elim (cases_lt c (length p.columns)) [
    | inl within ↦ let high = stacked c [] within in omega (arith, high, most)
    | inr past ↦ let none : height p c ≡ 0 = ap length (get_or_past p.columns c [] past) in omega (arith, none)
  ]

  pub on_widest : (u : Square) → on_board (board_of p) u ≡ true → on_board widest u ≡ true
  on_widest u on =
      let parts = on_board_parts (board_of p) u.0 u.1 on in
      let wide = cols_most in let high = rows_most in
      on_board_from widest u.0 u.1 (omega arith) (omega arith) (omega arith)

  pub man_widest : (side : Side) (u : Square) → has_man p side u ≡ true → on_board widest u ≡ true
  man_widest side u h = on_widest u (man_on_board p side u stacked h)

  pub side_shows : (side : Side) → Shows (has_man p side) (side_word p side)
  side_shows side = record { word = word_is_word (has_man p side); within = man_widest side; same = word_has (has_man p side) }

  abbrev pub all_men : ℕ
  all_men = bit_or (side_word p White) (side_word p Black)

  pub men_word : IsWord all_men
  men_word = union_word (side_word p White) (side_word p Black) (word_is_word (has_man p White)) (word_is_word (has_man p Black))

  -- the lowest squares of a column hold its men
  men_bit : (c i : ℕ) → c < 10 → i < 10 → bit_at all_men (11 * c + i) ≡ cond (not (is_none (man_at p (c, suc i)))) 1 0
  men_bit c i within low =
      bit_at_or (side_word p White) (side_word p Black) (11 * c + i)
      ∙ ap (λ b. max b (bit_at (side_word p Black) (11 * c + i)))
      (word_bit (has_man p White) c i within low ∙ ap (λ r. cond (has_man p White (c, r)) 1 0) (add-one i))
      ∙ ap (max (cond (has_man p White (c, suc i)) 1 0)) (word_bit (has_man p Black) c i within low ∙ ap (λ r. cond (has_man p Black (c, r)) 1 0) (add-one i))
      ∙ at (man_at p (c, suc i))
    where
      at : (m : Option Side) → max (cond (is_man White m) 1 0) (cond (is_man Black m) 1 0) ≡ cond (not (is_none m)) 1 0
      at None = refl
      at (Some White) = refl
      at (Some Black) = refl

  pub column_bits : (c : ℕ) → c < 10 → all_men / 2 ^ (11 * c) % 2 ^ 11 ≡ 2 ^ height p c - 1
  column_bits c within = same_from_bits_below 11 (all_men / 2 ^ (11 * c) % 2 ^ 11) (2 ^ height p c - 1) (omega arith)
      (let most = height_most c in let power = pow_below (height p c) 11 (omega arith) in omega (arith, power))
      (λ i low. sym (column_of all_men c i low) ∙ at i low)
    where
      at : (i : ℕ) → i < 11 → bit_at all_men (11 * c + i) ≡ bit_at (2 ^ height p c - 1) i
      at i low = elim (cases_lt i (height p c)) [
        | inl under ↦
            let most = height_most c in
            let some = man_within (men_in p c) (suc i) (omega arith) (omega arith) in
            men_bit c i within (omega (arith, most)) ∙ ap (λ m. cond (not (is_none m)) 1 0) some.1 ∙ sym (bit_at_ones (height p c) i under)
        | inr above ↦ elim (cases_lt i 10) [
          | inl row ↦ men_bit c i within row ∙ ap (λ m. cond (not (is_none m)) 1 0) (man_past (men_in p c) (suc i) (omega arith))
              ∙ sym (bit_at_ones_above (height p c) i above)
          | inr top ↦ ap (bit_at all_men) (let e : 11 * c + i ≡ 11 * c + 10 = omega arith in e) ∙ men_word.gaps c ∙ sym (bit_at_ones_above (height p c) i above)
        ]
      ]

  -- the bits of a column are as many as its men
  pub height_bits : (c : ℕ) → c < 10 → height_in all_men c ≡ height p c
  height_bits c within = ap count_ones (and_mask (all_men / 2 ^ (11 * c)) 11 ∙ column_bits c within) ∙ ones_in (height p c)

  column_back : (c : ℕ) → c < 10 → column_in (side_word p White) (side_word p Black) c ≡ men_in p c
  column_back c within =
      ap (λ h. map (λ i. side_in (side_word p Black) (11 * c + i)) (below h)) (height_bits c within)
      ∙ ext_get_or White (map (λ i. side_in (side_word p Black) (11 * c + i)) (below (height p c))) (men_in p c)
      (length-map-range_with_len (λ i. side_in (side_word p Black) (11 * c + i)) 0 (height p c)) (λ i low.
      let inside : i < height p c = omega (arith, length-map-range_with_len (λ i. side_in (side_word p Black) (11 * c + i)) 0 (height p c)) in
      let most = height_most c in
      get_or-map-range_with_len (λ i. side_in (side_word p Black) (11 * c + i)) 0 (height p c) i i White inside (omega arith)
      ∙ ap (λ b. cond (b == 1) Black White) (word_bit (has_man p Black) c i within (omega (arith, most)))
      ∙ ap (λ r. cond (cond (has_man p Black (c, r)) 1 0 == 1) Black White) (add-one i)
      ∙ ap (λ m. cond (cond (is_man Black m) 1 0 == 1) Black White) (slice_get-get_or (men_in p c) i White inside)
      ∙ at (get_or (men_in p c) i White))
    where
      at : (m : Side) → cond (cond (is_man Black (Some m)) 1 0 == 1) Black White ≡ m
      at White = refl
      at Black = refl

  -- the fields give the position back
  pub read_back : men_of (fields_of p) ≡ p
  read_back =
      let size = length-map-range_with_len (column_in (side_word p White) (side_word p Black)) 0 (length p.columns) in
      ap (λ columns. record p { columns = columns })
      (ext_get_or [] (map (column_in (side_word p White) (side_word p Black)) (below (length p.columns))) p.columns size (λ c low.
      let within : c < length p.columns = omega (arith, size) in let most = cols_most in
      get_or-map-range_with_len (column_in (side_word p White) (side_word p Black)) 0 (length p.columns) c c [] within (omega arith)
      ∙ column_back c (omega (arith, most))))

  pub sound_fields : IsSound (fields_of p)
  sound_fields = record {
    board = board;
    stacked = subst IsStacked (sym read_back) stacked;
    fields_back = ap fields_of read_back;
  }

  -- ---- squares

  pub has_side : (side : Side) (u : Square) → on_board widest u ≡ true → has_bit (side_word p side) u ≡ has_man p side u
  has_side side u on = word_has (has_man p side) u on

  pub has_none : (u : Square) → on_board widest u ≡ true → not (has_bit all_men u) ≡ is_none (man_at p u)
  has_none u on =
      ap not (union_bit (side_word p White) (side_word p Black) u ∙ ap (λ b. b || has_bit (side_word p Black) u) (has_side White u on)
      ∙ ap (λ b. has_man p White u || b) (has_side Black u on))
      ∙ at (man_at p u)
    where
      at : (m : Option Side) → not (is_man White m || is_man Black m) ≡ is_none m
      at None = refl
      at (Some White) = refl
      at (Some Black) = refl

  pub side_set : (side : Side) → IsSetOf (has_man p side) (squares_of (side_word p side))
  side_set side = word_set (has_man p side) (side_word p side) (man_widest side) (has_side side)

  abbrev pub empty_word : ℕ
  empty_word = bit_and (board_word (board_of p)) (bit_not w128 all_men)

  pub empty_is_word : IsWord empty_word
  empty_is_word = common_word (board_word (board_of p)) (bit_not w128 all_men) (word_is_word (on_board (board_of p)))

  pub empty_set : IsSetOf (is_empty p) (squares_of empty_word)
  empty_set = word_set (is_empty p) empty_word (λ u h. on_widest u (and_parts (on_board (board_of p) u) (is_none (man_at p u)) h).0) (λ u on.
      common_bit (board_word (board_of p)) (bit_not w128 all_men) u
      ∙ ap (λ b. b && has_bit (bit_not w128 all_men) u) (word_has (on_board (board_of p)) u on)
      ∙ ap (λ b. on_board (board_of p) u && b) (not_bit all_men u (let low = men_word.low in omega (arith, low)) on ∙ has_none u on))

  -- ---- lines

  pub side_line : (side : Side) → word_runs (side_word p side) (line_length p.len) ≡ has_line p side
  side_line side = agree _ _
      (λ runs.
      let run = run_gives (has_man p side) (side_word p side) (side_shows side) (line_length p.len) (a_length p.len) runs in
      has_line_from p side (record {
        way = run.way;
        anchor = run.anchor;
        on_the_board = λ i low. man_on_board p side (step_of run.way run.anchor i) stacked (run.each i low);
        owned = run.each;
      }))
      (λ h.
      let line = has_line_gives p side h in
      run_from (has_man p side) (side_word p side) (side_shows side) (line_length p.len) (a_length p.len)
      (record { way = line.way; anchor = line.anchor; each = line.owned }))

-- a position that is kept by the fields of some position
pub kept_sound : (q : Position) → is_board (board_of q) ≡ true → IsStacked q → (b : Inside) → fields_of q ≡ b → IsSound b
kept_sound q board stacked b same = subst IsSound same (sound_fields q board stacked)

pub kept_men : (q : Position) → is_board (board_of q) ≡ true → IsStacked q → (b : Inside) → fields_of q ≡ b → men_of b ≡ q
kept_men q board stacked b same = ap men_of (sym same) ∙ read_back q board stacked
