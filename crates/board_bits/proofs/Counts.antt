-- How many men a position has, by the ones of its words, and when it is full.
use Rattle.std.proofs.Common.{◌≡◌, ℕ, zero, suc, ◌+◌, ◌-◌, ◌*◌, ◌<◌, ◌≤◌, true, ◌==◌, List, [], ◌∷◌, length, get_or, sum_by, refl, ap, ◌∙◌, inl, inr, arith}
use Rattle.std.specs.Int.RustNames.{count_ones}
use Rattle.std.specs.List.{range_with_len, list_any}
use Rattle.std.proofs.Math.Nat.{suc-mul}
use Rattle.std.proofs.lemmas.Bool.{cases_lt, both_ways, false_from_ne_true, eq-eqb, eqb-true, not-true, not_from_false}
use Rattle.std.proofs.lemmas.List.{get_or_past}
use Rattle.std.proofs.lemmas.List.Sums.{sum_by-cons}
use Rattle.game_rules.specs.Board.{below, is_board}
use Rattle.game_rules.specs.Position.{Position, board_of, height, man_count, empty_count, has_room, is_full, IsStacked}
use Rattle.game_rules.specs.declared.Side.{Side}
use Rattle.game_rules.proofs.Groups.{board_most}
use Rattle.game_rules.proofs.Lists.{any_gives, any_from, Among-below}
use Rattle.game_rules.proofs.Moves.{room_from}
use Rattle.game_rules.proofs.Squares.{agree}
use Rattle.game_rules.proofs.Values.{empty_count_room}
use Rattle.board_squares.specs.Words.{has_bit}
use Rattle.board_squares.proofs.Words.{column, word_ones, own_column}
use Rattle.board_bits.proofs.Positions.{all_men, men_word, column_bits, ones_in}

sum_none : (g : ℕ → ℕ) (m a : ℕ) → ((i : ℕ) → i < m → g (a + i) ≡ 0) → sum_by g (range_with_len a m) ≡ 0
sum_none g zero a none = refl
sum_none g (suc m) a none =
    let first : g a ≡ 0 = ap g (let e : a ≡ a + 0 = omega arith in e) ∙ none 0 (omega arith) in
    let rest = sum_none g m (a + 1) (λ i low. ap g (let e : a + 1 + i ≡ a + suc i = omega arith in e) ∙ none (suc i) (omega arith)) in
    let step = sum_by-cons g a (range_with_len (a + 1) m) in
    omega (arith, first, rest, step)

empty_past : (i : ℕ) → length {A = List Side} [] ≤ i
empty_past i = omega arith

-- numbers that are the lengths of lists, and beyond them 0
sum_lengths : (g : ℕ → ℕ) (xs : List (List Side)) (m a : ℕ) → length xs ≤ m → ((i : ℕ) → i < m → g (a + i) ≡ length (get_or xs i []))
    → sum_by g (range_with_len a m) ≡ sum_by length xs
sum_lengths g [] m a few each = sum_none g m a (λ i low. each i low ∙ ap (λ (men : List Side). length men) (get_or_past [] i [] (empty_past i)))
sum_lengths g (x ∷ xs) zero a few each = absurd (omega arith)
sum_lengths g (x ∷ xs) (suc m) a few each =
    let first : g a ≡ length x = ap g (let e : a ≡ a + 0 = omega arith in e) ∙ each 0 (omega arith) in
    let rest = sum_lengths g xs m (a + 1) (omega arith) (λ i low. ap g (let e : a + 1 + i ≡ a + suc i = omega arith in e) ∙ each (suc i) (omega arith)) in
    let step = sum_by-cons g a (range_with_len (a + 1) m) in
    let all = sum_by-cons (λ (men : List Side). length men) x xs in
    omega (arith, first, rest, step, all)

-- the men and the empty squares are all squares
men_and_room : (rows : ℕ) (xs : List (List Side)) → ((i : ℕ) → i < length xs → length (get_or xs i []) ≤ rows)
    → sum_by length xs + sum_by (λ men. rows - length men) xs ≡ length xs * rows
men_and_room rows [] low = omega arith
men_and_room rows (x ∷ xs) low =
    let first : length x ≤ rows = low 0 (omega arith) in
    let rest = men_and_room rows xs (λ i within. low (suc i) (omega arith)) in
    let men = sum_by-cons (λ (men : List Side). length men) x xs in
    let room = sum_by-cons (λ (men : List Side). rows - length men) x xs in
    omega (arith, first, rest, men, room, suc-mul (length xs) rows)

no_room : (rows : ℕ) (xs : List (List Side)) → ((i : ℕ) → i < length xs → rows ≤ length (get_or xs i [])) → sum_by (λ men. rows - length men) xs ≡ 0
no_room rows [] high = refl
no_room rows (x ∷ xs) high =
    let first : rows ≤ length x = high 0 (omega arith) in
    let rest = no_room rows xs (λ i within. high (suc i) (omega arith)) in
    let room = sum_by-cons (λ (men : List Side). rows - length men) x xs in
    omega (arith, first, rest, room)

module _ (p : Position) (board : is_board (board_of p) ≡ true) (stacked : IsStacked p) where
  pub man_ones : count_ones (all_men p board stacked) ≡ man_count p
  man_ones =
      let men = all_men p board stacked in let word = men_word p board stacked in
      word_ones men word
      ∙ sum_lengths (λ c. count_ones (column (has_bit men) c)) p.columns 10 0 (board_most (board_of p) board).0 (λ c low.
      ap (λ n. count_ones (column (has_bit men) n)) (let e : 0 + c ≡ c = omega arith in e)
      ∙ ap count_ones (own_column men word c low ∙ column_bits p board stacked c low)
      ∙ ones_in (height p c))

  pub full_ones : (count_ones (all_men p board stacked) == length p.columns * p.rows) ≡ is_full p
  full_ones =
      let counted = man_ones in
      let both = men_and_room p.rows p.columns (λ i low. stacked i [] low) in
      agree _ _
      (λ h. not_from_false _ (false_from_ne_true (list_any (has_room p) (below (length p.columns))) (λ some.
      let found = any_gives (has_room p) (below (length p.columns)) some in
      let room : 0 < empty_count p = empty_count_room p found.0 found.2 in
      let whole : count_ones (all_men p board stacked) ≡ length p.columns * p.rows = eqb-true _ _ h in
      omega (arith, counted, both, room, whole))))
      (λ full.
      let none = no_room p.rows p.columns (λ i low. elim (cases_lt (height p i) p.rows) [
        | inr high ↦ high
        | inl room ↦ absurd (both_ways (list_any (has_room p) (below (length p.columns))) (not-true _ full)
            (any_from (has_room p) (below (length p.columns)) i (Among-below (length p.columns) i low) (room_from p i low room)))
      ]) in
      eq-eqb (count_ones (all_men p board stacked)) (length p.columns * p.rows) (omega (arith, counted, both, none)))
