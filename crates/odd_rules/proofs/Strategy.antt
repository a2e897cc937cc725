-- From an odd threat alone: whatever Black plays, White has an answer, Black has no line, and White has one at the end.
use Rattle.std.proofs.Common.{◌≡◌, ◌≢◌, ◌⊎◌, ℕ, ◌+◌, ◌%◌, ◌<◌, ◌≤◌, true, false, not, ◌&&◌, ◌||◌, ◌==◌, nat_lt, List, length, Option, Some, None, unwrap_or}
use Rattle.std.proofs.Common.{refl, sym, ap, ◌∙◌, subst, inl, inr, arith}
use Rattle.std.specs.List.{list_any, slice_get}
use Rattle.std.proofs.lemmas.Bool.{cases_Bool, cases_eq, cases_order, both_ways, and_parts, and_left, and_right, or_cases, or_from, or_left, or_right}
use Rattle.std.proofs.lemmas.Bool.{not_from_true, false_from_ne_true, eqb-true, eqb-false, eq-eqb, ne_eqb, le-ltb, cond-true, cond-false}
use Rattle.std.proofs.lemmas.Option.{same_Some}
use Rattle.game_rules.specs.Board.{Board, Square, is_board, on_board}
use Rattle.game_rules.specs.Position.{Position, board_of, men_in, height, man_at, has_man, is_man, other, side_to_move, has_line, is_full, end_of}
use Rattle.game_rules.specs.Position.{is_legal, after_move}
use Rattle.game_rules.specs.Squares.{same_square, has_square, is_empty, is_playable}
use Rattle.game_rules.specs.Groups.{Group, squares_of, lies_on}
use Rattle.game_rules.specs.declared.Side.TheVariants.{White, Black}
use Rattle.game_rules.proofs.Lists.{any_from}
use Rattle.game_rules.proofs.Moves.{man_past, board_moved}
use Rattle.game_rules.proofs.Ends.{on_board_from, on_board_parts, ended_parts, filled_from_full, has_line_same, other_kept, disjoint, legal_parts}
use Rattle.game_rules.proofs.Squares.{same_square_refl, same_square_is}
use Rattle.plan_rules.specs.Squares.{above, is_even, is_odd}
use Rattle.plan_rules.specs.Laws.{Owns}
use Rattle.plan_rules.proofs.Fits.{even_rows}
use Rattle.plan_rules.proofs.Squares.{get-Among, other_column, other_row, same_place}
use Rattle.plan_rules.proofs.Strategy.{room_playable, line_squares, group_gives_line}
use Rattle.plan_rules.proofs.Turns.{empty_height, man_from, has_man_from, playable_parts, playable_room, empty_parts, placed, beside, stays}
use Rattle.plan_rules.proofs.Turns.{height_here, height_beside, side_after, answer_at, low_above, low_kept}
use Rattle.odd_rules.specs.Threat.{Pair, is_in_column, is_of_pair, is_safe, IsPairAt, SomePair, IsThreat}
use Rattle.odd_rules.specs.Duel.{partner, answer_of, top_of, IsPairKept, IsKept, IsWon, Stands, IsAnswered}
use Rattle.odd_rules.proofs.Pairs.{even_gives, odd_gives, even_from, odd_from, PairParts, pair_parts, left_in, right_in, apart_columns, AreIts, ArePair}
use Rattle.odd_rules.proofs.Pairs.{of_pair, columns_of, in_columns, partner_gives, no_partner}

module _ (p : Position) (g : Group) (pairs : List Pair) (t : Square) (board : is_board (board_of p) ≡ true) (threat : IsThreat p g pairs t) where
  parts_at : (i : ℕ) (x : Pair) → IsPairAt pairs i x → PairParts p t x
  parts_at i x at = pair_parts p t x (threat.fitting i x at)

  -- a safe square is empty at the threat's position
  safe_empty : (u : Square) → is_safe p t pairs u ≡ true → man_at p u ≡ None
  safe_empty u safe = (empty_parts p u (and_parts (is_empty p u) _ safe).0).1

  pub first_kept : IsKept p t pairs p
  first_kept = record {
    board = refl;
    black = threat.black;
    going = threat.going;
    stay = λ u m h. h;
    free = (empty_parts p t threat.lacks.empty).1;
    odd = threat.lacks.odd_column;
    columns = λ c apart. inr refl;
    pairs_kept = λ i x at. inl (refl, refl);
    safe = λ u safe. ap (is_man Black) (safe_empty u safe);
  }

  -- ---- Black's man on s, at a position that keeps everything

  module _ (q : Position) (kept : IsKept p t pairs q) (s : Square) (playable : is_playable q s ≡ true) where
    abbrev now : Position
    now = after_move q s.0

    s_row : s.1 ≡ height q s.0 + 1
    s_row = (playable_parts q s playable).1

    same_rows : p.rows ≡ q.rows
    same_rows = ap (λ (b : Board). b.rows) kept.board

    same_cols : length p.columns ≡ length q.columns
    same_cols = ap (λ (b : Board). b.cols) kept.board

    white_now : side_to_move now ≡ White
    white_now = side_after q s playable ∙ ap other kept.black

    -- in the target's column Black's man comes to an even row, below the target
    below_target : s.0 ≡ t.0 → (s.1 % 2 ≡ 0) × (s.1 + 1 ≤ t.1)
    below_target same =
        let column : height q s.0 ≡ height q t.0 = ap (height q) same in
        let odd = odd_gives (height q t.0) kept.odd in
        let row = odd_gives t.1 threat.lacks.odd_row in
        let low : 1 ≤ t.1 = omega arith in
        let gap : height q t.0 < t.1 = empty_height q t kept.free low in
        (omega (arith, s_row), omega (arith, s_row))

    -- a pair with a man just come to one of its squares was as at the threat's position
    untouched : (i : ℕ) (x : Pair) → IsPairAt pairs i x → (x.0 ≡ s) ⊎ (x.1 ≡ s)
        → (height q x.0.0 ≡ height p x.0.0) × (height q x.1.0 ≡ height p x.1.0)
    untouched i x at one = by (kept.pairs_kept i x at) one
      where
        parts : PairParts p t x
        parts = parts_at i x at

        by : IsPairKept p q x → (x.0 ≡ s) ⊎ (x.1 ≡ s) → (height q x.0.0 ≡ height p x.0.0) × (height q x.1.0 ≡ height p x.1.0)
        by (inl same) one = same
        by (inr changed) (inl left) =
            let column : height q x.0.0 ≡ height q s.0 = ap (λ (u : Square). height q u.0) left in
            let row : x.0.1 ≡ s.1 = ap (λ (u : Square). u.1) left in
            absurd (omega (arith, even_gives (height q x.0.0) changed.0, parts.left_odd, (playable_parts p x.0 parts.left).1, s_row))
        by (inr changed) (inr right) =
            let column : height q x.1.0 ≡ height q s.0 = ap (λ (u : Square). height q u.0) right in
            let row : x.1.1 ≡ s.1 = ap (λ (u : Square). u.1) right in
            absurd (omega (arith, even_gives (height q x.1.0) changed.1, parts.right_odd, (playable_parts p x.1 parts.right).1, s_row))

    -- a square of a pair in whose column no man came
    record IsTop (u : Square) : Type 0 where
      row : u.1 ≡ height q u.0 + 1
      beside_target : u.0 ≢ t.0
      odd_below : height q u.0 % 2 ≡ 1
      on_the_board : on_board (board_of q) u ≡ true

    is_top : (u : Square) → is_playable p u ≡ true → u.0 ≢ t.0 → height p u.0 % 2 ≡ 1 → height q u.0 ≡ height p u.0 → IsTop u
    is_top u first apart odd same = record {
      row = omega (arith, (playable_parts p u first).1, same);
      beside_target = apart;
      odd_below = ap (λ n. n % 2) same ∙ odd;
      on_the_board = subst (λ b. on_board b u ≡ true) kept.board (and_parts (on_board (board_of p) u) _ first).0;
    }

    -- where s has a partner, both are such squares
    record Two (v : Square) : Type 0 where
      are : ArePair pairs s v
      apart : v.0 ≢ s.0
      s_top : IsTop s
      v_top : IsTop v

    two : (v : Square) → ArePair pairs s v → Two v
    two v are = by are.squares
      where
        parts : PairParts p t are.pair
        parts = parts_at are.place are.pair are.is_at

        tops : (are.pair.0 ≡ s) ⊎ (are.pair.1 ≡ s) → IsTop are.pair.0 × IsTop are.pair.1
        tops one =
            let heights = untouched are.place are.pair are.is_at one in (
              is_top are.pair.0 parts.left parts.left_apart parts.left_odd heights.0,
              is_top are.pair.1 parts.right parts.right_apart parts.right_odd heights.1,
            )

        column : (u w : Square) → u ≡ w → u.0 ≡ w.0
        column u w same = ap (λ (x : Square). x.0) same

        by : AreIts are.pair s v → Two v
        by (inl both) = let top = tops (inl both.0) in record {
          are = are;
          apart = λ same. omega (arith, parts.order, column are.pair.0 s both.0, column are.pair.1 v both.1, same);
          s_top = subst IsTop both.0 top.0;
          v_top = subst IsTop both.1 top.1;
        }
        by (inr both) = let top = tops (inr both.0) in record {
          are = are;
          apart = λ same. omega (arith, parts.order, column are.pair.1 s both.0, column are.pair.0 v both.1, same);
          s_top = subst IsTop both.0 top.1;
          v_top = subst IsTop both.1 top.0;
        }

    -- where s has no partner, its column had an even number of men, or is the target's
    even_below : partner pairs s ≡ None → s.0 ≢ t.0 → height q s.0 % 2 ≡ 0
    even_below none apart = elim (kept.columns s.0 apart) [
      | inl even ↦ even_gives (height q s.0) even
      | inr same ↦ elim (cases_Bool (is_odd (height p s.0))) [
        | inl odd ↦ absurd (in_none same (threat.paired s.0 column (ne_eqb s.0 t.0 apart) odd))
        | inr not_odd ↦ let parity = eqb-false (height p s.0 % 2) 1 not_odd in omega (arith, same, parity)
      ]
    ]
      where
        column : s.0 < length p.columns
        column = omega (arith, (playable_parts q s playable).0, same_cols)

        square_is : (u : Square) → height q s.0 ≡ height p s.0 → is_playable p u ≡ true → u.0 ≡ s.0 → same_square s u ≡ true
        square_is u same first at =
            let below : height p u.0 ≡ height p s.0 = ap (height p) at in
            let row : u.1 ≡ s.1 = omega (arith, (playable_parts p u first).1, s_row) in
            subst (λ v. same_square s v ≡ true) (sym (same_place u s at row)) (same_square_refl s)

        in_none : height q s.0 ≡ height p s.0 → SomePair pairs (λ x. is_in_column s.0 x ≡ true) → ⊥
        in_none same some =
            let parts = parts_at some.place some.pair some.is_at in
            let alone = no_partner pairs s none some.place some.pair some.is_at in
            elim (or_cases _ _ some.has_it) [
              | inl left ↦ both_ways (same_square s some.pair.0) alone.0 (square_is some.pair.0 same parts.left (eqb-true some.pair.0.0 s.0 left))
              | inr right ↦ both_ways (same_square s some.pair.1) alone.1 (square_is some.pair.1 same parts.right (eqb-true some.pair.1.0 s.0 right))
            ]

    room_above : partner pairs s ≡ None → s.1 + 1 ≤ q.rows
    room_above none = elim (cases_eq s.0 t.0) [
      | inl same ↦ let on = on_board_parts (board_of p) t.0 t.1 (empty_parts p t threat.lacks.empty).0 in omega (arith, (below_target same).1, on.2, same_rows)
      | inr apart ↦ let even = even_below none apart in let rows = even_rows (board_of p) board in
          omega (arith, s_row, (playable_parts q s playable).2, same_rows, rows, even)
    ]

    -- Black's square is none of the safe ones
    not_safe : is_safe p t pairs s ≡ false
    not_safe = and_right (is_empty p s) _ (elim (cases_eq s.0 t.0) [
      | inl same ↦ let low = below_target same in
          cond-true (s.0 == t.0) (is_odd s.1 || nat_lt t.1 s.1) (is_even s.1 && not (list_any (is_of_pair s) pairs)) (eq-eqb s.0 t.0 same)
          ∙ or_from _ _ (ne_eqb (s.1 % 2) 1 (λ odd. omega (arith, low.0, odd))) (le-ltb t.1 s.1 (omega (arith, low.1)))
      | inr apart ↦ cond-false (s.0 == t.0) (is_odd s.1 || nat_lt t.1 s.1) (is_even s.1 && not (list_any (is_of_pair s) pairs)) (ne_eqb s.0 t.0 apart)
          ∙ by (partner pairs s) refl apart
    ])
      where
        by : (o : Option Square) → partner pairs s ≡ o → s.0 ≢ t.0 → (is_even s.1 && not (list_any (is_of_pair s) pairs)) ≡ false
        by None none apart = and_left _ _ (ne_eqb (s.1 % 2) 0 (λ even. omega (arith, even, s_row, even_below none apart)))
        by (Some v) some apart = let both = two v (partner_gives pairs s v some) in
            and_right _ _ (not_from_true _ (any_from (is_of_pair s) pairs both.are.pair (get-Among pairs both.are.place both.are.pair both.are.is_at)
            (of_pair both.are.pair s v both.are.squares).0))

    safe_beside : (u : Square) → is_safe p t pairs u ≡ true → same_square u s ≡ false
    safe_beside u safe = false_from_ne_true _ (λ same.
        both_ways (is_safe p t pairs s) not_safe (subst (λ v. is_safe p t pairs v ≡ true) (same_square_is u s same) safe))

    target_beside : same_square t s ≡ false
    target_beside = elim (cases_eq s.0 t.0) [
      | inl same ↦ let low = below_target same in other_row t s (λ row. omega (arith, low.1, row))
      | inr apart ↦ other_column t s (λ same. apart (sym same))
    ]

    -- ---- Black has no line after it

    black_beside : (u : Square) → same_square u s ≡ false → has_man now Black u ≡ has_man q Black u
    black_beside u apart = ap (is_man Black) (beside q s u playable apart)

    white_same : (u : Square) → has_man now White u ≡ has_man q White u
    white_same u =
        ap (λ side. has_man now (other side) u) (sym kept.black)
        ∙ other_kept q s.0 (playable_room q s playable) u
        ∙ ap (λ side. has_man q (other side) u) kept.black

    no_line_now : has_line now Black ≡ false
    no_line_now = false_from_ne_true _ (λ held. let line = line_squares now Black held in against line.0 line.1 line.2)
      where
        board_now : board_of p ≡ board_of now
        board_now = kept.board ∙ sym (board_moved q s.0)

        no_white : (h : Group) → Owns Black now (has_square (squares_of h)) → (u : Square) → has_square (squares_of h) u ≡ true → has_man p White u ≡ false
        no_white h owns u in_line = false_from_ne_true _ (λ white.
            disjoint now u (white_same u ∙ has_man_from q White u (kept.stay u White (man_from p White u white))) (owns u in_line))

        -- a square on top of its column at q that Black has after the man on s is s
        is_s : (u : Square) → u.1 ≡ height q u.0 + 1 → has_man now Black u ≡ true → u ≡ s
        is_s u top black = elim (cases_Bool (same_square u s)) [
          | inl same ↦ same_square_is u s same
          | inr apart ↦ absurd (let gone : is_man Black None ≡ true = ap (is_man Black) (sym (man_past (men_in q u.0) u.1 (omega (arith, top))))
              ∙ sym (black_beside u apart) ∙ black in cc)
        ]

        both_black : (i : ℕ) (x : Pair) → IsPairAt pairs i x → has_man now Black x.0 ≡ true → has_man now Black x.1 ≡ true → IsPairKept p q x → ⊥
        both_black i x at left right (inl same) =
            let parts = parts_at i x at in
            let first = is_s x.0 (omega (arith, (playable_parts p x.0 parts.left).1, same.0)) left in
            let second = is_s x.1 (omega (arith, (playable_parts p x.1 parts.right).1, same.1)) right in
            let column : x.0.0 ≡ x.1.0 = ap (λ (u : Square). u.0) (first ∙ sym second) in
            omega (arith, parts.order, column)
        both_black i x at left right (inr changed) = elim changed.2 [
          | inl white ↦ disjoint now x.0 (white_same x.0 ∙ white) left
          | inr white ↦ disjoint now x.1 (white_same x.1 ∙ white) right
        ]

        against : (h : Group) → lies_on (board_of now) h ≡ true → Owns Black now (has_square (squares_of h)) → ⊥
        against h lies owns = elim (threat.answered h (subst (λ b. lies_on b h ≡ true) (sym board_now) lies) (no_white h owns)) [
          | inl some ↦
              both_ways (has_man q Black some.square) (kept.safe some.square some.safe)
              (sym (black_beside some.square (safe_beside some.square some.safe)) ∙ owns some.square some.in_line)
          | inr some ↦
              let both = and_parts (has_square (squares_of h) some.pair.0) (has_square (squares_of h) some.pair.1) some.has_it in
              both_black some.place some.pair some.is_at (owns some.pair.0 both.0) (owns some.pair.1 both.1) (kept.pairs_kept some.place some.pair some.is_at)
        ]

    -- a position of the board where the target is empty isn't full
    not_full : (r : Position) → board_of p ≡ board_of r → man_at r t ≡ None → is_full r ≡ false
    not_full r same none = false_from_ne_true _ (λ full.
        filled_from_full r full t (subst (λ b. on_board b t ≡ true) same (empty_parts p t threat.lacks.empty).0) none)

    end_none : (r : Position) → has_line r White ≡ false → has_line r Black ≡ false → is_full r ≡ false → end_of r ≡ None
    end_none r white black full = rw (white, black, full) refl

    going_now : end_of now ≡ None
    going_now = end_none now
        (has_line_same now q White (board_moved q s.0) white_same ∙ (ended_parts q kept.going).0)
        no_line_now
        (not_full now (kept.board ∙ sym (board_moved q s.0)) (beside q s t playable target_beside ∙ kept.free))

    -- ---- White's answer

    -- the answer, and what is so after it; White's man stands on the target, or all is kept while the game goes on
    record Answer : Type 0 where
      to : Square
      is_to : answer_of pairs s ≡ to
      second : is_playable now to ≡ true
      after : (man_at (after_move now to.0) t ≡ Some White)
          ⊎ ((man_at (after_move now to.0) t ≡ None) × (end_of (after_move now to.0) ≡ None → IsKept p t pairs (after_move now to.0)))

    module _ (to : Square) (second : is_playable now to ≡ true) where
      abbrev then_at : Position
      then_at = after_move now to.0

      white_stays : (u : Square) → has_man q White u ≡ true → has_man then_at White u ≡ true
      white_stays u white = has_man_from then_at White u (stays now to u White second (stays q s u White playable (man_from q White u white)))

      black_same : (u : Square) → has_man then_at Black u ≡ has_man now Black u
      black_same u =
          ap (λ side. has_man then_at (other side) u) (sym white_now)
          ∙ other_kept now to.0 (playable_room now to second) u
          ∙ ap (λ side. has_man now (other side) u) white_now

      height_same : (c : ℕ) → c ≢ s.0 → c ≢ to.0 → height then_at c ≡ height q c
      height_same c from_s from_to = height_beside now to c from_to ∙ height_beside q s c from_s

      target_then : same_square t to ≡ false → man_at then_at t ≡ None
      target_then apart = beside now to t second apart ∙ beside q s t playable target_beside ∙ kept.free

      -- a column of which the height is as it was, or even
      column_kept : (c : ℕ) → (height then_at c ≡ height q c) ⊎ (is_even (height then_at c) ≡ true) → (is_even (height q c) ≡ true) ⊎ (height q c ≡ height p c)
          → (is_even (height then_at c) ≡ true) ⊎ (height then_at c ≡ height p c)
      column_kept c (inr even) old = inl even
      column_kept c (inl same) (inl even) = inl (ap is_even same ∙ even)
      column_kept c (inl same) (inr old) = inr (same ∙ old)

      white_one : (x : Pair) → (has_man q White x.0 ≡ true) ⊎ (has_man q White x.1 ≡ true)
          → (has_man then_at White x.0 ≡ true) ⊎ (has_man then_at White x.1 ≡ true)
      white_one x (inl white) = inl (white_stays x.0 white)
      white_one x (inr white) = inr (white_stays x.1 white)

      -- a pair in whose columns nothing came
      pair_beside : (x : Pair) → height then_at x.0.0 ≡ height q x.0.0 → height then_at x.1.0 ≡ height q x.1.0 → IsPairKept p q x → IsPairKept p then_at x
      pair_beside x left right (inl same) = inl (left ∙ same.0, right ∙ same.1)
      pair_beside x left right (inr changed) = inr (ap is_even left ∙ changed.0, ap is_even right ∙ changed.1, white_one x changed.2)

      kept_then : man_at then_at t ≡ None → is_odd (height then_at t.0) ≡ true
          → ((c : ℕ) → c ≢ t.0 → (height then_at c ≡ height q c) ⊎ (is_even (height then_at c) ≡ true))
          → ((i : ℕ) (x : Pair) → IsPairAt pairs i x → IsPairKept p then_at x) → end_of then_at ≡ None → IsKept p t pairs then_at
      kept_then none odd heights pairs_then going = record {
        board = kept.board ∙ sym (board_moved q s.0) ∙ sym (board_moved now to.0);
        black = side_after now to second ∙ ap other white_now;
        going = going;
        stay = λ u m man. stays now to u m second (stays q s u m playable (kept.stay u m man));
        free = none;
        odd = odd;
        columns = λ c apart. column_kept c (heights c apart) (kept.columns c apart);
        pairs_kept = pairs_then;
        safe = λ u safe. black_same u ∙ black_beside u (safe_beside u safe) ∙ kept.safe u safe;
      }

    -- in the pair: both columns get one man each, and one of the two squares is White's
    pair_answer : (v : Square) → partner pairs s ≡ Some v → Answer
    pair_answer v some = from (two v (partner_gives pairs s v some))
      where
        from : Two v → Answer
        from both = record {
          to = v;
          is_to = ap (λ o. unwrap_or o (above s)) some;
          second = answered;
          after = inr (
            none,
            kept_then v answered none odd (λ c apart. elim (cases_eq c s.0) [
              | inl here ↦ inr (ap (λ n. is_even (height (then_at v answered) n)) here ∙ s_even)
              | inr from_s ↦ elim (cases_eq c v.0) [
                | inl here ↦ inr (ap (λ n. is_even (height (then_at v answered) n)) here ∙ v_even)
                | inr from_v ↦ inl (height_same v answered c from_s from_v)
              ]
            ]) pairs_then,
          );
        }
          where
            answered : is_playable now v ≡ true
            answered = answer_at q s v playable both.v_top.on_the_board (other_column v s both.apart)
                (man_past (men_in q v.0) v.1 (omega (arith, both.v_top.row)))
                (low_kept q s v playable (omega (arith, both.v_top.row)))

            none : man_at (then_at v answered) t ≡ None
            none = target_then v answered (other_column t v (λ same. both.v_top.beside_target (sym same)))

            odd : is_odd (height (then_at v answered) t.0) ≡ true
            odd = ap is_odd (height_same v answered t.0 (λ same. both.s_top.beside_target (sym same)) (λ same. both.v_top.beside_target (sym same))) ∙ kept.odd

            s_even : is_even (height (then_at v answered) s.0) ≡ true
            s_even = even_from (height (then_at v answered) s.0)
                (omega (arith, height_beside now v s.0 (λ same. both.apart (sym same)), height_here q s playable, both.s_top.odd_below))

            v_even : is_even (height (then_at v answered) v.0) ≡ true
            v_even = even_from (height (then_at v answered) v.0)
                (omega (arith, height_here now v answered, height_beside q s v.0 both.apart, both.v_top.odd_below))

            even_at : (c : ℕ) → (c ≡ s.0) ⊎ (c ≡ v.0) → is_even (height (then_at v answered) c) ≡ true
            even_at c (inl here) = ap (λ n. is_even (height (then_at v answered) n)) here ∙ s_even
            even_at c (inr here) = ap (λ n. is_even (height (then_at v answered) n)) here ∙ v_even

            v_white : has_man (then_at v answered) White v ≡ true
            v_white = has_man_from (then_at v answered) White v (placed now v answered ∙ ap (λ side. Some side) white_now)

            white_in : (x : Pair) → (x.0 ≡ v) ⊎ (x.1 ≡ v) → (has_man (then_at v answered) White x.0 ≡ true) ⊎ (has_man (then_at v answered) White x.1 ≡ true)
            white_in x (inl here) = inl (ap (has_man (then_at v answered) White) here ∙ v_white)
            white_in x (inr here) = inr (ap (has_man (then_at v answered) White) here ∙ v_white)

            -- another pair has neither of the two columns
            other_pair : (i : ℕ) (x : Pair) → IsPairAt pairs i x → i ≢ both.are.place → (c : ℕ) → is_in_column c both.are.pair ≡ true
                → is_in_column c x ≡ true → ⊥
            other_pair i x at beside_i c in_pair in_x = elim (cases_order i both.are.place) [
              | inl same ↦ beside_i same
              | inr apart ↦ elim apart [
                | inl before ↦ apart_columns x both.are.pair (threat.apart i both.are.place x both.are.pair before at both.are.is_at) c in_x in_pair
                | inr behind ↦ apart_columns both.are.pair x (threat.apart both.are.place i both.are.pair x behind both.are.is_at at) c in_pair in_x
              ]
            ]

            ins : (is_in_column s.0 both.are.pair ≡ true) × (is_in_column v.0 both.are.pair ≡ true)
            ins = in_columns both.are.pair s v both.are.squares

            columns : (c : ℕ) → is_in_column c both.are.pair ≡ true → (c ≡ s.0) ⊎ (c ≡ v.0)
            columns c in_it = columns_of both.are.pair s v both.are.squares c in_it

            pairs_then : (i : ℕ) (x : Pair) → IsPairAt pairs i x → IsPairKept p (then_at v answered) x
            pairs_then i x at = elim (cases_eq i both.are.place) [
              | inl same ↦ let one : both.are.pair ≡ x = same_Some both.are.pair x (sym both.are.is_at ∙ ap (slice_get pairs) (sym same) ∙ at) in
                  subst (IsPairKept p (then_at v answered)) one
                  (inr (
                    even_at both.are.pair.0.0 (columns both.are.pair.0.0 (left_in both.are.pair)),
                    even_at both.are.pair.1.0 (columns both.are.pair.1.0 (right_in both.are.pair)),
                    white_in both.are.pair (of_pair both.are.pair s v both.are.squares).1,
                  ))
              | inr beside_i ↦ pair_beside v answered x
                  (height_same v answered x.0.0
                  (λ same. other_pair i x at beside_i s.0 ins.0 (or_left _ _ (eq-eqb x.0.0 s.0 same)))
                  (λ same. other_pair i x at beside_i v.0 ins.1 (or_left _ _ (eq-eqb x.0.0 v.0 same))))
                  (height_same v answered x.1.0
                  (λ same. other_pair i x at beside_i s.0 ins.0 (or_right _ _ (eq-eqb x.1.0 s.0 same)))
                  (λ same. other_pair i x at beside_i v.0 ins.1 (or_right _ _ (eq-eqb x.1.0 v.0 same))))
                  (kept.pairs_kept i x at)
            ]

    -- directly above: the column gets two men, which changes no parity
    above_answer : partner pairs s ≡ None → Answer
    above_answer alone = record {
      to = above s;
      is_to = ap (λ o. unwrap_or o (above s)) alone;
      second = answered;
      after = elim (cases_Bool (same_square t (above s))) [
        | inl won ↦ let here = same_square_is t (above s) won in
            inl (ap (man_at (then_at (above s) answered)) here ∙ placed now (above s) answered ∙ ap (λ side. Some side) white_now)
        | inr apart ↦ inr (
          target_then (above s) answered apart,
          kept_then (above s) answered (target_then (above s) answered apart) odd heights pairs_then,
        )
      ];
    }
      where
        answered : is_playable now (above s) ≡ true
        answered = answer_at q s (above s) playable
            (on_board_from (board_of q) s.0 (s.1 + 1) (playable_parts q s playable).0 (omega arith) (room_above alone))
            (other_row (above s) s (λ row. omega (arith, row)))
            (man_past (men_in q s.0) (s.1 + 1) (omega (arith, s_row)))
            (low_above q s playable)

        two_more : height (then_at (above s) answered) s.0 ≡ height q s.0 + 2
        two_more = omega (arith, height_here now (above s) answered, height_here q s playable)

        column_same : (c : ℕ) → c ≢ s.0 → height (then_at (above s) answered) c ≡ height q c
        column_same c apart = height_same (above s) answered c apart apart

        odd : is_odd (height (then_at (above s) answered) t.0) ≡ true
        odd = elim (cases_eq t.0 s.0) [
          | inl here ↦
              let below : height q t.0 ≡ height q s.0 = ap (height q) here in
              let over : height (then_at (above s) answered) t.0 ≡ height (then_at (above s) answered) s.0 = ap (height (then_at (above s) answered)) here in
              odd_from (height (then_at (above s) answered) t.0) (omega (arith, odd_gives (height q t.0) kept.odd, two_more, below, over))
          | inr apart ↦ ap is_odd (column_same t.0 apart) ∙ kept.odd
        ]

        even_at : (c : ℕ) → c ≢ t.0 → c ≡ s.0 → is_even (height (then_at (above s) answered) c) ≡ true
        even_at c apart here =
            let over : height (then_at (above s) answered) c ≡ height (then_at (above s) answered) s.0 = ap (height (then_at (above s) answered)) here in
            even_from (height (then_at (above s) answered) c) (omega (arith, even_below alone (λ same. apart (here ∙ same)), two_more, over))

        heights : (c : ℕ) → c ≢ t.0 → (height (then_at (above s) answered) c ≡ height q c) ⊎ (is_even (height (then_at (above s) answered) c) ≡ true)
        heights c apart = elim (cases_eq c s.0) [
          | inl here ↦ inr (even_at c apart here)
          | inr beside_s ↦ inl (column_same c beside_s)
        ]

        -- an even height stays even
        stays_even : (c : ℕ) → c ≢ t.0 → is_even (height q c) ≡ true → is_even (height (then_at (above s) answered) c) ≡ true
        stays_even c apart even = elim (heights c apart) [
          | inl same ↦ ap is_even same ∙ even
          | inr now_even ↦ now_even
        ]

        -- a column with an odd number of men isn't Black's
        odd_beside : (c : ℕ) → c ≢ t.0 → height q c % 2 ≡ 1 → height (then_at (above s) answered) c ≡ height q c
        odd_beside c apart is = column_same c (λ here.
            let below : height q c ≡ height q s.0 = ap (height q) here in
            omega (arith, even_below alone (λ same. apart (here ∙ same)), below, is))

        pair_then : (x : Pair) → PairParts p t x → IsPairKept p q x → IsPairKept p (then_at (above s) answered) x
        pair_then x parts (inl same) = pair_beside (above s) answered x
            (odd_beside x.0.0 parts.left_apart (ap (λ n. n % 2) same.0 ∙ parts.left_odd))
            (odd_beside x.1.0 parts.right_apart (ap (λ n. n % 2) same.1 ∙ parts.right_odd))
            (inl same)
        pair_then x parts (inr changed) =
            inr (stays_even x.0.0 parts.left_apart changed.0, stays_even x.1.0 parts.right_apart changed.1, white_one (above s) answered x changed.2)

        pairs_then : (i : ℕ) (x : Pair) → IsPairAt pairs i x → IsPairKept p (then_at (above s) answered) x
        pairs_then i x at = pair_then x (parts_at i x at) (kept.pairs_kept i x at)

    answer : Answer
    answer = by (partner pairs s) refl
      where
        by : (o : Option Square) → partner pairs s ≡ o → Answer
        by None alone = above_answer alone
        by (Some v) some = pair_answer v some

    -- ---- after it

    -- the line that lacked the target is whole
    line_whole : (r : Position) → board_of p ≡ board_of r → ((u : Square) → has_man p White u ≡ true → has_man r White u ≡ true) → man_at r t ≡ Some White
        → has_line r White ≡ true
    line_whole r same stay there =
        group_gives_line r White g (subst (λ b. lies_on b g ≡ true) same threat.lacks.line) (λ u in_line. elim (cases_Bool (same_square u t)) [
          | inl here ↦ ap (has_man r White) (same_square_is u t here) ∙ has_man_from r White t there
          | inr apart ↦ stay u (threat.lacks.others u in_line apart)
        ])

    -- White has a line, or all is kept
    after_answer : (one : Answer) → Stands p t pairs (after_move now one.to.0)
    after_answer one = by one.after
      where
        board_then : board_of p ≡ board_of (after_move now one.to.0)
        board_then = kept.board ∙ sym (board_moved q s.0) ∙ sym (board_moved now one.to.0)

        white_stay : (u : Square) → has_man p White u ≡ true → has_man (after_move now one.to.0) White u ≡ true
        white_stay u white = white_stays one.to one.second u (has_man_from q White u (kept.stay u White (man_from p White u white)))

        no_black : has_line (after_move now one.to.0) Black ≡ false
        no_black = has_line_same (after_move now one.to.0) now Black (board_moved now one.to.0) (black_same one.to one.second) ∙ no_line_now

        won : has_line (after_move now one.to.0) White ≡ true → IsWon (after_move now one.to.0)
        won white = record { no_line = no_black; ended = rw white refl }

        by : (man_at (after_move now one.to.0) t ≡ Some White)
            ⊎ ((man_at (after_move now one.to.0) t ≡ None) × (end_of (after_move now one.to.0) ≡ None → IsKept p t pairs (after_move now one.to.0)))
            → Stands p t pairs (after_move now one.to.0)
        by (inl there) = inl (won (line_whole (after_move now one.to.0) board_then white_stay there))
        by (inr kept_then) = elim (cases_Bool (has_line (after_move now one.to.0) White)) [
          | inl white ↦ inl (won white)
          | inr none ↦ inr (kept_then.1 (end_none (after_move now one.to.0) none no_black (not_full (after_move now one.to.0) board_then kept_then.0)))
        ]

  -- ---- the turn as a whole

  -- a legal move of Black's is answered
  pub take_turn : (q : Position) → IsKept p t pairs q → (column : ℕ) → is_legal q column ≡ true → IsAnswered p t pairs q column
  take_turn q kept column legal = from (room_playable q column (legal_parts q column legal).1)
    where
      from : is_playable q (top_of q column) ≡ true → IsAnswered p t pairs q column
      from playable = record {
        no_line = no_line_now q kept (top_of q column) playable;
        going = going_now q kept (top_of q column) playable;
        playable = subst (λ u. is_playable (after_move q column) u ≡ true) (sym one.is_to) one.second;
        after = subst (λ u. Stands p t pairs (after_move (after_move q column) u.0)) (sym one.is_to) (after_answer q kept (top_of q column) playable one);
      }
        where
          one : Answer q kept (top_of q column) playable
          one = answer q kept (top_of q column) playable
