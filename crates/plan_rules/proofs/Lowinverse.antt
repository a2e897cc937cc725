-- Lowinverse: below the tops White's square is answered by the one above; a top is answered in the other column, which
-- shifts that column by one. What is proved of White's move in one column, with the other beside it, holds of both.
use Rattle.std.proofs.Common.{◌≡◌, ◌≢◌, ◌⊎◌, ℕ, zero, suc, ◌+◌, ◌-◌, ◌%◌, ◌<◌, ◌≤◌, true, false, ◌&&◌, List, [], ◌∷◌, ◌++◌, length, Option, Some, None, refl}
use Rattle.std.proofs.Common.{sym, ap, ◌∙◌, subst, inl, inr, arith}
use Rattle.std.specs.List.{slice_get}
use Rattle.std.proofs.lemmas.Bool.{cases_lt, leb-true, eqb-true, eq-eqb, and_parts, and_from, or_cases, or_left, or_right, cond-true, cond-false}
use Rattle.std.proofs.lemmas.Bool.{false_from_ne_true}
use Rattle.std.proofs.lemmas.List.{length_push}
use Rattle.game_rules.specs.Board.{Square, on_board}
use Rattle.game_rules.specs.Position.{Position, board_of, height, man_at, has_man, men_in, side_to_move, has_room, lowest_empty, other, after_move}
use Rattle.game_rules.specs.Squares.{same_square, has_square, is_playable}
use Rattle.game_rules.specs.declared.Side.{Side}
use Rattle.game_rules.specs.declared.Side.TheVariants.{White, Black}
use Rattle.game_rules.proofs.Lists.{Among, any_gives, Among-append_cases, Among-append_left, Among-append_right}
use Rattle.game_rules.proofs.Moves.{man_past}
use Rattle.game_rules.proofs.Ends.{on_board_parts}
use Rattle.game_rules.proofs.Squares.{same_square_refl, has_gives, has_from}
use Rattle.plan_rules.specs.Squares.{above, under, is_odd, column_up, span, put_first, men_on}
use Rattle.plan_rules.specs.Rules.{lowinverse, zone_of, is_low_column, fits, reply_to, upper_of, pair_of, twin_of, barred, is_supported}
use Rattle.plan_rules.specs.Calm.{is_paired, is_topped, is_shifted, is_calm_low, is_calm}
use Rattle.plan_rules.specs.Laws.{StartLaw, LocalLaw, StepLaw, FactLaw, BarLaw, Answers}
use Rattle.plan_rules.proofs.Squares.{other_column, other_row, has_append, column_gives, column_from}
use Rattle.plan_rules.proofs.Turns.{man_from, answer_at, low_above, side_after, playable_parts, playable_room, height_beside}
use Rattle.plan_rules.proofs.Grounds.{TwoColumns, low_two, fits_shape}
use Rattle.plan_rules.proofs.Words.{zone_on_board, zone_none, foot_low}
use Rattle.plan_rules.proofs.Columns.{man_on, length_within, length_on, length_full, same_on, beside_on, pushed_on}
use Rattle.plan_rules.proofs.Pairs.{paired_even, shifted_odd, paired_more, paired_topped, paired_shifted, shifted_more, paired_odd, topped_odd, paired_no_two}
use Rattle.plan_rules.proofs.Pairs.{topped_no_two, shifted_no_two, paired_not_last, shifted_not_last}
use Rattle.plan_rules.specs.Lawful.{Lawful}

abbrev some_square : Square → Option Square
some_square u = Some u

-- ---- calm, by cases

pub data CalmLow (n m : ℕ) (us vs : List Side) : Type 0 where
  both_paired : is_paired us ≡ true → is_paired vs ≡ true → CalmLow n m us vs
  left_capped : length us ≡ n → is_topped us ≡ true → is_shifted vs ≡ true → CalmLow n m us vs
  right_capped : is_shifted us ≡ true → length vs ≡ m → is_topped vs ≡ true → CalmLow n m us vs

length_column : (u : Square) (n : ℕ) → length (column_up u n) ≡ n
length_column u zero = refl
length_column u (suc n) = omega (arith, length_column (above u) n)

pub calm_gives : (q : Position) (u v : Square) (n m : ℕ) → is_calm_low q (column_up u n) (column_up v m) ≡ true
    → CalmLow n m (men_on q (column_up u n)) (men_on q (column_up v m))
calm_gives q u v n m h = elim (or_cases _ _ h) [
  | inl left ↦ elim (or_cases _ _ left) [
    | inl paired ↦ let both = and_parts _ _ paired in both_paired both.0 both.1
    | inr capped ↦ let both = and_parts _ _ capped in let full = and_parts _ _ both.0 in left_capped (eqb-true _ _ full.0 ∙ length_column u n) full.1 both.1
  ]
  | inr right ↦ let both = and_parts _ _ right in let full = and_parts _ _ both.1 in right_capped both.0 (eqb-true _ _ full.0 ∙ length_column v m) full.1
]

calm_from : (q : Position) (u v : Square) (n m : ℕ) → CalmLow n m (men_on q (column_up u n)) (men_on q (column_up v m))
    → is_calm_low q (column_up u n) (column_up v m) ≡ true
calm_from q u v n m (both_paired left right) = or_left _ _ (or_left _ _ (and_from _ _ left right))
calm_from q u v n m (left_capped size topped shifted) =
    or_left _ _ (or_right _ _ (and_from _ _ (and_from _ _ (eq-eqb _ _ (size ∙ sym (length_column u n))) topped) shifted))
calm_from q u v n m (right_capped shifted size topped) = or_right _ _ (and_from _ _ shifted (and_from _ _ (eq-eqb _ _ (size ∙ sym (length_column v m))) topped))

calm_turned : (n m : ℕ) (us vs : List Side) → CalmLow n m us vs → CalmLow m n vs us
calm_turned n m us vs (both_paired left right) = both_paired right left
calm_turned n m us vs (left_capped size topped shifted) = right_capped shifted size topped
calm_turned n m us vs (right_capped shifted size topped) = left_capped size topped shifted

-- ---- where White stands

-- no two neighbouring squares of a column are White's
no_two : (n m : ℕ) (us vs : List Side) → CalmLow n m us vs → (i : ℕ) → slice_get us i ≡ Some White → slice_get us (suc i) ≡ Some White → ⊥
no_two n m us vs (both_paired left right) i white over = paired_no_two us i left white over
no_two n m us vs (left_capped size topped shifted) i white over = topped_no_two us i topped white over
no_two n m us vs (right_capped shifted size topped) i white over = shifted_no_two us i shifted white over

-- not in both columns an odd square
no_odds : (n m : ℕ) (us vs : List Side) → CalmLow n m us vs → (i j : ℕ) → i % 2 ≡ 1 → j % 2 ≡ 1 → slice_get us i ≡ Some White → slice_get vs j ≡ Some White → ⊥
no_odds n m us vs (both_paired left right) i j odd_i odd_j white other = paired_odd us i left odd_i white
no_odds n m us vs (left_capped size topped shifted) i j odd_i odd_j white other = topped_odd us i topped odd_i white
no_odds n m us vs (right_capped shifted size topped) i j odd_i odd_j white other = topped_odd vs j topped odd_j other

-- not both tops
no_tops : (n m : ℕ) (us vs : List Side) → CalmLow n m us vs → length us ≤ n → length vs ≤ m → (i j : ℕ) → i + 1 ≡ n → j + 1 ≡ m → slice_get us i ≡ Some White
    → slice_get vs j ≡ Some White → ⊥
no_tops n m us vs (both_paired left right) us_low vs_low i j top_i top_j white other = omega (arith, paired_not_last us i left white)
no_tops n m us vs (left_capped size topped shifted) us_low vs_low i j top_i top_j white other = omega (arith, shifted_not_last vs j shifted other)
no_tops n m us vs (right_capped shifted size topped) us_low vs_low i j top_i top_j white other = omega (arith, shifted_not_last us i shifted white)

-- ---- White's move in the column of u

module _ (u v : Square) (n m : ℕ) (odd_n : n % 2 ≡ 1) (odd_m : m % 2 ≡ 1) (apart : u.0 ≢ v.0) (low_u : 1 ≤ u.1) (low_v : 1 ≤ v.1)
    (q : Position) (white : side_to_move q ≡ White) (foot_u : u.1 ≤ height q u.0 + 1) (foot_v : v.1 ≤ height q v.0 + 1)
    (calm : CalmLow n m (men_on q (column_up u n)) (men_on q (column_up v m)))
    (on_v : (j : ℕ) → j < m → on_board (board_of q) (v.0, v.1 + j) ≡ true) where
  -- the men of the column reach up to White's square
  reach : (i : ℕ) → i < n → is_playable q (u.0, u.1 + i) ≡ true → length (men_on q (column_up u n)) ≡ i
  reach i within playable =
      let row = (playable_parts q (u.0, u.1 + i) playable).1 in
      omega (arith, length_on q n u low_u foot_u (omega (arith, row)), row)

  black_turn : (s : Square) → is_playable q s ≡ true → side_to_move (after_move q s.0) ≡ Black
  black_turn s playable = side_after q s playable ∙ ap other white

  -- below the top: the square above
  inner : (i : ℕ) → i + 1 < n → is_playable q (u.0, u.1 + i) ≡ true → is_playable (after_move q u.0) (above (u.0, u.1 + i)) ≡ true
      → CalmLow n m (men_on (after_move (after_move q u.0) u.0) (column_up u n)) (men_on (after_move (after_move q u.0) u.0) (column_up v m))
  inner i within playable answer = by_case calm
    where
      us_next : men_on (after_move (after_move q u.0) u.0) (column_up u n) ≡ (men_on q (column_up u n) ++ White ∷ []) ++ Black ∷ []
      us_next =
          pushed_on (after_move q u.0) (above (u.0, u.1 + i)) Black n u answer (black_turn (u.0, u.1 + i) playable) low_u refl (omega arith) (omega arith)
          ∙ ap (λ men. men ++ Black ∷ []) (pushed_on q (u.0, u.1 + i) White n u playable white low_u refl (omega arith) (omega arith))

      vs_next : men_on (after_move (after_move q u.0) u.0) (column_up v m) ≡ men_on q (column_up v m)
      vs_next = beside_on (after_move q u.0) (above (u.0, u.1 + i)) m v answer (λ same. apart (sym same))
          ∙ beside_on q (u.0, u.1 + i) m v playable (λ same. apart (sym same))

      by_case : CalmLow n m (men_on q (column_up u n)) (men_on q (column_up v m))
          → CalmLow n m (men_on (after_move (after_move q u.0) u.0) (column_up u n)) (men_on (after_move (after_move q u.0) u.0) (column_up v m))
      by_case (both_paired left right) = both_paired (ap is_paired us_next ∙ paired_more (men_on q (column_up u n)) left) (ap is_paired vs_next ∙ right)
      by_case (left_capped size topped shifted) = absurd (omega (arith, reach i (omega arith) playable))
      by_case (right_capped shifted size topped) =
          right_capped (ap is_shifted us_next ∙ shifted_more (men_on q (column_up u n)) shifted) (ap length vs_next ∙ size) (ap is_topped vs_next ∙ topped)

  -- the top: the playable square of the other column
  record TopAnswer (i : ℕ) : Type 0 where
    place : ℕ
    within : place < m
    is_reply : lowest_empty (after_move q u.0) v.0 ≡ Some (v.0, v.1 + place)
    playable : is_playable (after_move q u.0) (v.0, v.1 + place) ≡ true
    calm_after : CalmLow n m (men_on (after_move (after_move q u.0) v.0) (column_up u n)) (men_on (after_move (after_move q u.0) v.0) (column_up v m))

  top : (i : ℕ) → i + 1 ≡ n → is_playable q (u.0, u.1 + i) ≡ true → TopAnswer i
  top i at_top playable = by_case calm
    where
      room_reply : (j : ℕ) → has_room (after_move q u.0) v.0 ≡ true → height (after_move q u.0) v.0 + 1 ≡ v.1 + j
          → lowest_empty (after_move q u.0) v.0 ≡ Some (v.0, v.1 + j)
      room_reply j room row = cond-true {A = Option Square} (has_room (after_move q u.0) v.0) (Some (v.0, height (after_move q u.0) v.0 + 1)) None room
          ∙ ap (λ r. some_square (v.0, r)) row

      us_next : (j : ℕ) → is_playable (after_move q u.0) (v.0, v.1 + j) ≡ true
          → men_on (after_move (after_move q u.0) v.0) (column_up u n) ≡ men_on q (column_up u n) ++ White ∷ []
      us_next j answer = beside_on (after_move q u.0) (v.0, v.1 + j) n u answer apart
          ∙ pushed_on q (u.0, u.1 + i) White n u playable white low_u refl (omega arith) (omega arith)

      vs_next : (j : ℕ) → j < m → is_playable (after_move q u.0) (v.0, v.1 + j) ≡ true
          → men_on (after_move (after_move q u.0) v.0) (column_up v m) ≡ men_on q (column_up v m) ++ Black ∷ []
      vs_next j within answer =
          pushed_on (after_move q u.0) (v.0, v.1 + j) Black m v answer (black_turn (u.0, u.1 + i) playable) low_v refl (omega arith) (omega arith)
          ∙ ap (λ men. men ++ Black ∷ []) (beside_on q (u.0, u.1 + i) m v playable (λ same. apart (sym same)))

      -- the other column isn't full: an odd number of squares, and its men come in pairs
      free : is_paired (men_on q (column_up v m)) ≡ true → length (men_on q (column_up v m)) < m
      free right = elim (cases_lt (length (men_on q (column_up v m))) m) [
        | inl less ↦ less
        | inr full ↦ absurd (omega (arith, paired_even (men_on q (column_up v m)) right, length_within q m v))
      ]

      row_before : is_paired (men_on q (column_up v m)) ≡ true → height q v.0 + 1 ≡ v.1 + length (men_on q (column_up v m))
      row_before right = elim (cases_lt (height q v.0 + 1) (v.1 + m)) [
        | inl less ↦ omega (arith, length_on q m v low_v foot_v (omega arith))
        | inr over ↦ absurd (omega (arith, length_full q m v low_v over, free right))
      ]

      by_case : CalmLow n m (men_on q (column_up u n)) (men_on q (column_up v m)) → TopAnswer i
      by_case (left_capped size topped shifted) = absurd (omega (arith, reach i (omega arith) playable))
      by_case (right_capped shifted size topped) = absurd (omega (arith, reach i (omega arith) playable, shifted_odd (men_on q (column_up u n)) shifted))
      by_case (both_paired left right) = answer (length (men_on q (column_up v m))) (free right) (row_before right)
        where
          answer : (j : ℕ) → j < m → height q v.0 + 1 ≡ v.1 + j → TopAnswer i
          answer j within row =
              let now_row : height (after_move q u.0) v.0 + 1 ≡ v.1 + j = ap (λ h. h + 1) (height_beside q (u.0, u.1 + i) v.0 (λ same. apart (sym same)))
              ∙ row in
              let open_now : is_playable (after_move q u.0) (v.0, v.1 + j) ≡ true =
              answer_at q (u.0, u.1 + i) (v.0, v.1 + j) playable (on_v j within) (other_column (v.0, v.1 + j) (u.0, u.1 + i) (λ same. apart (sym same)))
              (past_row (v.1 + j) row) (omega arith) in
              record {
                place = j;
                within = within;
                is_reply = room_reply j (playable_room (after_move q u.0) (v.0, v.1 + j) open_now) now_row;
                playable = open_now;
                calm_after = left_capped
                    (ap length (us_next j open_now) ∙ length_push (men_on q (column_up u n)) White ∙ omega (arith, reach i (omega arith) playable))
                    (ap is_topped (us_next j open_now) ∙ paired_topped (men_on q (column_up u n)) left)
                    (ap is_shifted (vs_next j within open_now) ∙ paired_shifted (men_on q (column_up v m)) right);
              }
            where
              past_row : (r : ℕ) → height q v.0 + 1 ≡ r → man_at q (v.0, r) ≡ None
              past_row r row = man_past (men_in q v.0) r (omega arith)

-- ---- the instance

-- a column of an odd number of squares, from an even row up to an even row
record LowColumn (bottom top : Square) (n : ℕ) : Type 0 where
  same : top.0 ≡ bottom.0
  even : bottom.1 % 2 ≡ 0
  rows : bottom.1 + n ≡ top.1 + 1
  more : 2 < n
  odd : n % 2 ≡ 1

low_column : (bottom top : Square) → is_low_column bottom top ≡ true → LowColumn bottom top (top.1 + 1 - bottom.1)
low_column bottom top h =
    let size = and_parts _ _ h in let even_top = and_parts _ _ size.0 in let even_bottom = and_parts _ _ even_top.0 in
    let low : bottom.1 + 2 ≤ top.1 = leb-true (bottom.1 + 2) top.1 size.1 in
    let top_row : top.1 % 2 ≡ 0 = eqb-true (top.1 % 2) 0 even_top.1 in
    let bottom_row : bottom.1 % 2 ≡ 0 = eqb-true (bottom.1 % 2) 0 even_bottom.1 in
    record {
      same = sym (eqb-true bottom.0 top.0 even_bottom.0);
      even = bottom_row;
      rows = omega arith;
      more = omega arith;
      odd = omega arith;
    }

-- the top is the last square
abbrev place_in : Square → ℕ → Square
place_in bottom i = (bottom.0, bottom.1 + i)

top_is : (bottom top : Square) (n i : ℕ) → LowColumn bottom top n → i + 1 ≡ n → place_in bottom i ≡ top
top_is bottom top n i column last = pair top (sym column.same) (omega (arith, column.rows))
  where
    pair : (top : Square) → bottom.0 ≡ top.0 → bottom.1 + i ≡ top.1 → place_in bottom i ≡ top
    pair (c, r) column row = rw (column, row) refl

-- White's square of a column, by its place
white_at : (q : Position) (u : Square) (n i : ℕ) → 1 ≤ u.1 → i < n → has_man q White (u.0, u.1 + i) ≡ true → slice_get (men_on q (column_up u n)) i ≡ Some White
white_at q u n i low within white = man_on q n u i low within ∙ man_from q White (u.0, u.1 + i) white

white_above : (q : Position) (u : Square) (n i : ℕ) → 1 ≤ u.1 → suc i < n → has_man q White (u.0, u.1 + i + 1) ≡ true
    → slice_get (men_on q (column_up u n)) (suc i) ≡ Some White
white_above q u n i low within white = white_at q u n (suc i) low within (subst (λ r. has_man q White (u.0, r) ≡ true) (omega arith) white)

module _ (x x_top y y_top : Square) where
  abbrev n : ℕ
  n = x_top.1 + 1 - x.1

  abbrev m : ℕ
  m = y_top.1 + 1 - y.1

  abbrev zone : List Square
  zone = zone_of (lowinverse x x_top y y_top)

  column_x : (p : Position) → fits (lowinverse x x_top y y_top) p ≡ true → LowColumn x x_top n
  column_x p fitted = low_column x x_top (and_parts _ _ (and_parts _ _ (fits_shape (lowinverse x x_top y y_top) p fitted)).0).1

  column_y : (p : Position) → fits (lowinverse x x_top y y_top) p ≡ true → LowColumn y y_top m
  column_y p fitted = low_column y y_top (and_parts _ _ (fits_shape (lowinverse x x_top y y_top) p fitted)).1

  in_x : (i : ℕ) → i < n → Among (x.0, x.1 + i) zone
  in_x i within = Among-append_left (x.0, x.1 + i) (span x x_top) (span y y_top) (column_from x n i within)

  in_y : (i : ℕ) → i < m → Among (y.0, y.1 + i) zone
  in_y i within = Among-append_right (y.0, y.1 + i) (span x x_top) (span y y_top) (column_from y m i within)

  on_x : (p q : Position) → fits (lowinverse x x_top y y_top) p ≡ true → board_of p ≡ board_of q → (i : ℕ) → i < n → on_board (board_of q) (x.0, x.1 + i) ≡ true
  on_x p q fitted board i within = zone_on_board (lowinverse x x_top y y_top) p q fitted board (x.0, x.1 + i) (in_x i within)

  on_y : (p q : Position) → fits (lowinverse x x_top y y_top) p ≡ true → board_of p ≡ board_of q → (i : ℕ) → i < m → on_board (board_of q) (y.0, y.1 + i) ≡ true
  on_y p q fitted board i within = zone_on_board (lowinverse x x_top y y_top) p q fitted board (y.0, y.1 + i) (in_y i within)

  low_x : (p : Position) → fits (lowinverse x x_top y y_top) p ≡ true → 1 ≤ x.1
  low_x p fitted = let column = column_x p fitted in
      omega (arith, (on_board_parts (board_of p) x.0 (x.1 + 0) (on_x p p fitted refl 0 (omega (arith, column.more)))).1)

  low_y : (p : Position) → fits (lowinverse x x_top y y_top) p ≡ true → 1 ≤ y.1
  low_y p fitted = let column = column_y p fitted in
      omega (arith, (on_board_parts (board_of p) y.0 (y.1 + 0) (on_y p p fitted refl 0 (omega (arith, column.more)))).1)

  pub lowinverse_start : StartLaw (fits (lowinverse x x_top y y_top)) (is_calm (lowinverse x x_top y y_top)) None
  lowinverse_start p fitted = record {
    calm_now = calm_from p x y n m (both_paired (ap is_paired (nothing (span x x_top) (λ u among. Among-append_left u (span x x_top) (span y y_top) among)))
        (ap is_paired (nothing (span y y_top) (λ u among. Among-append_right u (span x x_top) (span y y_top) among))));
    line_on_board = tt;
  }
    where
      none_of : (us : List Square) → ((u : Square) → Among u us → man_at p u ≡ None) → men_on p us ≡ []
      none_of [] none = refl
      none_of (u ∷ us) none = ap (λ m. put_first m (men_on p us)) (none u (inl refl)) ∙ none_of us (λ v among. none v (inr among))

      nothing : (us : List Square) → ((u : Square) → Among u us → Among u (zone_of (lowinverse x x_top y y_top))) → men_on p us ≡ []
      nothing us within = none_of us (λ u among. zone_none (lowinverse x x_top y y_top) p fitted u (within u among))

  pub lowinverse_local : LocalLaw (zone_of (lowinverse x x_top y y_top)) (is_calm (lowinverse x x_top y y_top))
  lowinverse_local p q same calm =
      let left : men_on p (span x x_top) ≡ men_on q (span x x_top) =
      same_on q p (span x x_top) (λ u among. same u (has_from zone u (Among-append_left u (span x x_top) (span y y_top) among))) in
      let right : men_on p (span y y_top) ≡ men_on q (span y y_top) =
      same_on q p (span y y_top) (λ u among. same u (has_from zone u (Among-append_right u (span x x_top) (span y y_top) among))) in
      calm_from q x y n m (subst (λ us. CalmLow n m us (men_on q (column_up y m))) left
      (subst (λ vs. CalmLow n m (men_on p (column_up x n)) vs) right (calm_gives p x y n m calm)))

  pub lowinverse_keeps : FactLaw (fits (lowinverse x x_top y y_top)) (is_calm (lowinverse x x_top y y_top)) (upper_of (lowinverse x x_top y y_top))
      (pair_of (lowinverse x x_top y y_top)) (twin_of (lowinverse x x_top y y_top))
  lowinverse_keeps p q fitted calm = record {
    uppers = λ u h. absurd (cc h);
    pairs = λ u among white. false_from_ne_true _ (λ over. elim (has_append (span x (under x_top)) (span y (under y_top)) u among) [
      | inl left ↦ below x n m (men_on q (column_up y m)) (low_x p fitted) (calm_gives q x y n m calm) (x_top.1 - 1 + 1 - x.1)
          (λ i less. omega (arith, (column_x p fitted).rows, (column_x p fitted).more)) u (has_gives (span x (under x_top)) u left) white over
      | inr right ↦ below y m n (men_on q (column_up x n)) (low_y p fitted) (calm_turned n m _ _ (calm_gives q x y n m calm)) (y_top.1 - 1 + 1 - y.1)
          (λ i less. omega (arith, (column_y p fitted).rows, (column_y p fitted).more)) u (has_gives (span y (under y_top)) u right) white over
    ]);
    twins = λ i u v h. absurd (cc h);
  }
    where
      below : (bottom : Square) (size other_size : ℕ) (vs : List Side) → 1 ≤ bottom.1 → CalmLow size other_size (men_on q (column_up bottom size)) vs → (k : ℕ)
          → ((i : ℕ) → i < k → suc i < size)
          → (u : Square) → Among u (column_up bottom k) → has_man q White u ≡ true → has_man q White (above u) ≡ true → ⊥
      below bottom size other_size vs low calm k less u among white over =
          let at = column_gives bottom k u among in
          no_two size other_size (men_on q (column_up bottom size)) vs calm at.0
          (white_at q bottom size at.0 low (omega (arith, less at.0 at.1)) (subst (λ u. has_man q White u ≡ true) at.2 white))
          (white_above q bottom size at.0 low (less at.0 at.1) (subst (λ u. has_man q White (above u) ≡ true) at.2 over))

  -- an odd square of a column stands at an odd place
  odd_place : (bottom : Square) (i : ℕ) (u : Square) → bottom.1 % 2 ≡ 0 → u ≡ place_in bottom i → is_odd u.1 ≡ true → i % 2 ≡ 1
  odd_place bottom i u even at odd =
      let row : u.1 ≡ bottom.1 + i = ap (λ (v : Square). v.1) at in
      let odd_row : u.1 % 2 ≡ 1 = eqb-true (u.1 % 2) 1 odd in
      omega arith

  pub lowinverse_bars : BarLaw (fits (lowinverse x x_top y y_top)) (is_supported (lowinverse x x_top y y_top)) (is_calm (lowinverse x x_top y y_top))
      (barred (lowinverse x x_top y y_top)) None
  lowinverse_bars p q facts set fitted empty supported calm are_true stay held owns = elim (or_cases _ _ held) [
    | inr neighbours ↦
        let found = any_gives (λ u. is_odd u.1 && set u && set (above u)) (span x x_top ++ span y y_top) neighbours in
        let over = and_parts _ _ found.2 in let odd = and_parts _ _ over.0 in
        elim (Among-append_cases found.0 (span x x_top) (span y y_top) found.1) [
          | inl left ↦ pair x n m (men_on q (column_up y m)) (low_x p fitted) (column_x p fitted).even (column_x p fitted).odd cases found.0 left odd.0
              (owns found.0 odd.1) (owns (above found.0) over.1)
          | inr right ↦ pair y m n (men_on q (column_up x n)) (low_y p fitted) (column_y p fitted).even (column_y p fitted).odd
              (calm_turned n m (men_on q (column_up x n)) (men_on q (column_up y m)) cases) found.0 right odd.0 (owns found.0 odd.1)
              (owns (above found.0) over.1)
        ]
    | inl first ↦ elim (or_cases _ _ first) [
      | inl odds ↦
          let both = and_parts _ _ odds in
          let left = any_gives (λ u. is_odd u.1 && set u) (span x x_top) both.0 in
          let right = any_gives (λ u. is_odd u.1 && set u) (span y y_top) both.1 in
          let left_odd = and_parts _ _ left.2 in let right_odd = and_parts _ _ right.2 in
          let at_x = column_gives x n left.0 left.1 in
          let at_y = column_gives y m right.0 right.1 in
          no_odds n m (men_on q (column_up x n)) (men_on q (column_up y m)) cases at_x.0 at_y.0
          (odd_place x at_x.0 left.0 (column_x p fitted).even at_x.2 left_odd.0) (odd_place y at_y.0 right.0 (column_y p fitted).even at_y.2 right_odd.0)
          (white_at q x n at_x.0 (low_x p fitted) at_x.1 (subst (λ u. has_man q White u ≡ true) at_x.2 (owns left.0 left_odd.1)))
          (white_at q y m at_y.0 (low_y p fitted) at_y.1 (subst (λ u. has_man q White u ≡ true) at_y.2 (owns right.0 right_odd.1)))
      | inr tops ↦
          let both = and_parts _ _ tops in
          no_tops n m (men_on q (column_up x n)) (men_on q (column_up y m)) cases (length_within q n x) (length_within q m y) (n - 1) (m - 1)
          (omega (arith, (column_x p fitted).more)) (omega (arith, (column_y p fitted).more))
          (white_at q x n (n - 1) (low_x p fitted) (omega (arith, (column_x p fitted).more))
          (subst (λ u. has_man q White u ≡ true) (sym (top_is x x_top n (n - 1) (column_x p fitted) (omega (arith, (column_x p fitted).more))))
          (owns x_top both.0)))
          (white_at q y m (m - 1) (low_y p fitted) (omega (arith, (column_y p fitted).more))
          (subst (λ u. has_man q White u ≡ true) (sym (top_is y y_top m (m - 1) (column_y p fitted) (omega (arith, (column_y p fitted).more))))
          (owns y_top both.1)))
    ]
  ]
    where
      cases : CalmLow (x_top.1 + 1 - x.1) (y_top.1 + 1 - y.1) (men_on q (column_up x (x_top.1 + 1 - x.1))) (men_on q (column_up y (y_top.1 + 1 - y.1)))
      cases = calm_gives q x y (x_top.1 + 1 - x.1) (y_top.1 + 1 - y.1) calm

      -- an odd square and the one above it
      pair : (bottom : Square) (size other_size : ℕ) (vs : List Side) → 1 ≤ bottom.1 → bottom.1 % 2 ≡ 0 → size % 2 ≡ 1
          → CalmLow size other_size (men_on q (column_up bottom size)) vs
          → (u : Square) → Among u (column_up bottom size) → is_odd u.1 ≡ true → has_man q White u ≡ true → has_man q White (above u) ≡ true → ⊥
      pair bottom size other_size vs low even odd_size calm u among odd white over =
          let at = column_gives bottom size u among in
          let odd_at = odd_place bottom at.0 u even at.2 odd in
          let within : suc at.0 < size = omega (arith, at.1) in
          no_two size other_size (men_on q (column_up bottom size)) vs calm at.0
          (white_at q bottom size at.0 low at.1 (subst (λ u. has_man q White u ≡ true) at.2 white))
          (white_above q bottom size at.0 low within (subst (λ u. has_man q White (above u) ≡ true) at.2 over))

  pub lowinverse_step : StepLaw (zone_of (lowinverse x x_top y y_top)) (fits (lowinverse x x_top y y_top)) (is_calm (lowinverse x x_top y y_top))
      (reply_to (lowinverse x x_top y y_top))
  lowinverse_step p q s fitted board calm white playable owned founded = elim (has_append (span x x_top) (span y y_top) s owned) [
    | inl left ↦
        let at = column_gives x n s (has_gives (span x x_top) s left) in
        subst (λ s. Answers zone (is_calm (lowinverse x x_top y y_top)) (reply_to (lowinverse x x_top y y_top)) q s) (sym at.2)
        (left_column at.0 at.1 (subst (λ s. is_playable q s ≡ true) at.2 playable) (cases_lt (at.0 + 1) n))
    | inr right ↦
        let at = column_gives y m s (has_gives (span y y_top) s right) in
        subst (λ s. Answers zone (is_calm (lowinverse x x_top y y_top)) (reply_to (lowinverse x x_top y y_top)) q s) (sym at.2)
        (right_column at.0 at.1 (subst (λ s. is_playable q s ≡ true) at.2 playable) (cases_lt (at.0 + 1) m))
  ]
    where
      two : TwoColumns (zone_of (lowinverse x x_top y y_top)) x y
      two = low_two x x_top y y_top p fitted

      turned_apart : y.0 ≢ x.0
      turned_apart same = two.apart (sym same)

      foot_x : x.1 ≤ height q x.0 + 1
      foot_x = foot_low (zone_of (lowinverse x x_top y y_top)) q founded x two.has_x
          (λ u owned same. elim (two.each u owned) [ inl at_x ↦ at_x.1 | inr at_y ↦ absurd (two.apart (sym same ∙ at_y.0)) ])

      foot_y : y.1 ≤ height q y.0 + 1
      foot_y = foot_low (zone_of (lowinverse x x_top y y_top)) q founded y two.has_y
          (λ u owned same. elim (two.each u owned) [ inl at_x ↦ absurd (two.apart (sym at_x.0 ∙ same)) | inr at_y ↦ at_y.1 ])

      cases : CalmLow (x_top.1 + 1 - x.1) (y_top.1 + 1 - y.1) (men_on q (column_up x (x_top.1 + 1 - x.1))) (men_on q (column_up y (y_top.1 + 1 - y.1)))
      cases = calm_gives q x y (x_top.1 + 1 - x.1) (y_top.1 + 1 - y.1) calm

      up : (i : ℕ) (u : Square) → is_playable q (place_in u i) ≡ true → on_board (board_of q) (place_in u (i + 1)) ≡ true
          → is_playable (after_move q u.0) (above (place_in u i)) ≡ true
      up i u playable on =
          answer_at q (place_in u i) (above (place_in u i)) playable (subst (λ r. on_board (board_of q) (u.0, r) ≡ true) (omega arith) on)
          (other_row (above (place_in u i)) (place_in u i) (λ same. omega arith))
          (past_row (u.1 + i + 1) (omega (arith, (playable_parts q (place_in u i) playable).1))) (low_above q (place_in u i) playable)
        where
          past_row : (r : ℕ) → height q u.0 < r → man_at q (u.0, r) ≡ None
          past_row r past = man_past (men_in q u.0) r past

      own_place : (u top : Square) (i : ℕ) → i < top.1 + 1 - u.1 → has_square (span u top) (place_in u i) ≡ true
      own_place u top i within = has_from (span u top) (place_in u i) (column_from u (top.1 + 1 - u.1) i within)

      not_in_x : (i : ℕ) → has_square (span x x_top) (place_in y i) ≡ false
      not_in_x i = false_from_ne_true _
          (λ owned. two.apart (sym (ap (λ u. u.0) (column_gives x (x_top.1 + 1 - x.1) (place_in y i) (has_gives (span x x_top) (place_in y i) owned)).2)))

      left_column : (i : ℕ) → i < x_top.1 + 1 - x.1 → is_playable q (place_in x i) ≡ true → (i + 1 < x_top.1 + 1 - x.1) ⊎ (x_top.1 + 1 - x.1 ≤ i + 1)
          → Answers (zone_of (lowinverse x x_top y y_top)) (is_calm (lowinverse x x_top y y_top)) (reply_to (lowinverse x x_top y y_top)) q (place_in x i)
      left_column i within playable (inl more) =
          let open_now = up i x playable (on_x p q fitted board (i + 1) more) in
          let below_top = other_row (place_in x i) x_top (λ same. omega (arith, (column_x p fitted).rows)) in
          record {
            to = above (place_in x i);
            is_reply = cond-true {A = Option Square} _ _ _ (own_place x x_top i within) ∙ cond-false {A = Option Square} _ _ _ below_top;
            in_zone = has_from (zone_of (lowinverse x x_top y y_top)) (above (place_in x i))
                (subst (λ r. Among (x.0, r) (zone_of (lowinverse x x_top y y_top))) (omega arith) (in_x (i + 1) more));
            playable = open_now;
            calm_after = calm_from (after_move (after_move q x.0) x.0) x y (x_top.1 + 1 - x.1) (y_top.1 + 1 - y.1)
                (inner x y (x_top.1 + 1 - x.1) (y_top.1 + 1 - y.1) (column_x p fitted).odd (column_y p fitted).odd two.apart (low_x p fitted) (low_y p fitted) q
                white foot_x foot_y cases
                (on_y p q fitted board) i more playable open_now);
          }
      left_column i within playable (inr last) =
          let answer = top x y (x_top.1 + 1 - x.1) (y_top.1 + 1 - y.1) (column_x p fitted).odd (column_y p fitted).odd two.apart (low_x p fitted)
          (low_y p fitted) q white foot_x foot_y cases
          (on_y p q fitted board) i (omega arith) playable in
          let here = ap (λ u. same_square u x_top) (top_is x x_top (x_top.1 + 1 - x.1) i (column_x p fitted) (omega arith)) ∙ same_square_refl x_top in
          record {
            to = place_in y answer.place;
            is_reply = cond-true {A = Option Square} _ _ _ (own_place x x_top i within) ∙ cond-true {A = Option Square} _ _ _ here ∙ answer.is_reply;
            in_zone = has_from (zone_of (lowinverse x x_top y y_top)) (place_in y answer.place) (in_y answer.place answer.within);
            playable = answer.playable;
            calm_after = calm_from (after_move (after_move q x.0) y.0) x y (x_top.1 + 1 - x.1) (y_top.1 + 1 - y.1) answer.calm_after;
          }

      right_column : (i : ℕ) → i < y_top.1 + 1 - y.1 → is_playable q (place_in y i) ≡ true → (i + 1 < y_top.1 + 1 - y.1) ⊎ (y_top.1 + 1 - y.1 ≤ i + 1)
          → Answers (zone_of (lowinverse x x_top y y_top)) (is_calm (lowinverse x x_top y y_top)) (reply_to (lowinverse x x_top y y_top)) q (place_in y i)
      right_column i within playable (inl more) =
          let open_now = up i y playable (on_y p q fitted board (i + 1) more) in
          let below_top = other_row (place_in y i) y_top (λ same. omega (arith, (column_y p fitted).rows)) in
          record {
            to = above (place_in y i);
            is_reply = cond-false {A = Option Square} _ _ _ (not_in_x i) ∙ cond-true {A = Option Square} _ _ _ (own_place y y_top i within)
                ∙ cond-false {A = Option Square} _ _ _ below_top;
            in_zone = has_from (zone_of (lowinverse x x_top y y_top)) (above (place_in y i))
                (subst (λ r. Among (y.0, r) (zone_of (lowinverse x x_top y y_top))) (omega arith) (in_y (i + 1) more));
            playable = open_now;
            calm_after = calm_from (after_move (after_move q y.0) y.0) x y (x_top.1 + 1 - x.1) (y_top.1 + 1 - y.1) (calm_turned _ _ _ _
                (inner y x (y_top.1 + 1 - y.1) (x_top.1 + 1 - x.1) (column_y p fitted).odd (column_x p fitted).odd turned_apart (low_y p fitted)
                (low_x p fitted) q white foot_y foot_x (calm_turned _ _ _ _ cases)
                (on_x p q fitted board) i more playable open_now));
          }
      right_column i within playable (inr last) =
          let answer = top y x (y_top.1 + 1 - y.1) (x_top.1 + 1 - x.1) (column_y p fitted).odd (column_x p fitted).odd turned_apart (low_y p fitted)
          (low_x p fitted) q white foot_y foot_x (calm_turned _ _ _ _ cases)
          (on_x p q fitted board) i (omega arith) playable in
          let here = ap (λ u. same_square u y_top) (top_is y y_top (y_top.1 + 1 - y.1) i (column_y p fitted) (omega arith)) ∙ same_square_refl y_top in
          record {
            to = place_in x answer.place;
            is_reply = cond-false {A = Option Square} _ _ _ (not_in_x i) ∙ cond-true {A = Option Square} _ _ _ (own_place y y_top i within)
                ∙ cond-true {A = Option Square} _ _ _ here ∙ answer.is_reply;
            in_zone = has_from (zone_of (lowinverse x x_top y y_top)) (place_in x answer.place) (in_x answer.place answer.within);
            playable = answer.playable;
            calm_after = calm_from (after_move (after_move q y.0) x.0) x y (x_top.1 + 1 - x.1) (y_top.1 + 1 - y.1) (calm_turned _ _ _ _ answer.calm_after);
          }

  pub lowinverse_laws : Lawful (lowinverse x x_top y y_top)
  lowinverse_laws = record { starts = lowinverse_start; is_local = lowinverse_local; steps = lowinverse_step; keeps = lowinverse_keeps; bars = lowinverse_bars }
