-- The two columns of a Lowinverse as sets of squares.
use Rattle.std.proofs.Common.{◌≡◌, ◌≢◌, ◌+◌, ◌-◌, ◌<◌, ◌≤◌, Bool, true, ◌&&◌, ◌==◌, nat_lt, nat_le, List, ◌++◌, refl, sym, ap, ◌∙◌, subst, inl, inr, arith}
use Rattle.std.specs.List.{list_all, list_any}
use Rattle.std.proofs.Math.Bool.{and_comm}
use Rattle.std.proofs.lemmas.Bool.{and_parts, and_from, eqb-true, eq-eqb, ltb-true, leb-true, le-leb}
use Rattle.std.proofs.lemmas.List.Folds.{list_all-append}
use Rattle.game_rules.specs.Board.{Board, Square, is_board, on_board}
use Rattle.game_rules.specs.Squares.{has_square, widest, IsSetOf}
use Rattle.game_rules.proofs.Ends.{on_board_parts, on_board_from}
use Rattle.game_rules.proofs.Groups.{board_most}
use Rattle.game_rules.proofs.Lists.{Among, all_gives, all_from, any_same}
use Rattle.game_rules.proofs.Squares.{agree, has_gives, has_from, set_on, any_in_same}
use Rattle.plan_rules.specs.Squares.{above, under, is_odd, span}
use Rattle.plan_rules.specs.Rules.{lowinverse, pair_of, is_low_column, has_shape, is_shaped}
use Rattle.plan_rules.proofs.Squares.{same_place, has_append, has_left, has_right, column_gives, column_from}
use Rattle.plan_rules.proofs.Replies.{IsLow, low_column}

-- ---- one column

-- where a square of it stands
pub span_gives : (bottom top u : Square) → has_square (span bottom top) u ≡ true → (u.0 ≡ bottom.0) × (bottom.1 ≤ u.1) × (u.1 ≤ top.1)
span_gives bottom top u h =
    let at = column_gives bottom (top.1 + 1 - bottom.1) u (has_gives (span bottom top) u h) in
    let within : at.0 < top.1 + 1 - bottom.1 = at.1 in
    let row : u.1 ≡ bottom.1 + at.0 = ap (λ (v : Square). v.1) at.2 in
    (ap (λ (v : Square). v.0) at.2, omega arith, omega arith)

-- a square that stands there is one of it
pub span_from : (bottom top u : Square) → u.0 ≡ bottom.0 → bottom.1 ≤ u.1 → u.1 ≤ top.1 → has_square (span bottom top) u ≡ true
span_from bottom top u column low high =
    has_from (span bottom top) u (subst (λ v. Among v (span bottom top)) (same_place (bottom.0, bottom.1 + (u.1 - bottom.1)) u (sym column) (omega arith))
    (column_from bottom (top.1 + 1 - bottom.1) (u.1 - bottom.1) (omega arith)))

-- the same as a test
pub span_has : (bottom top u : Square) → has_square (span bottom top) u ≡ ((u.0 == bottom.0) && (nat_le bottom.1 u.1 && nat_le u.1 top.1))
span_has bottom top u = agree _ _
    (λ h. let parts = span_gives bottom top u h in and_from _ _ (eq-eqb u.0 bottom.0 parts.0)
    (and_from _ _ (le-leb bottom.1 u.1 parts.1) (le-leb u.1 top.1 parts.2)))
    (λ h.
    let both = and_parts (u.0 == bottom.0) _ h in
    let rows = and_parts (nat_le bottom.1 u.1) (nat_le u.1 top.1) both.1 in
    span_from bottom top u (eqb-true u.0 bottom.0 both.0) (leb-true bottom.1 u.1 rows.0) (leb-true u.1 top.1 rows.1))

-- a column lies on the board where its bottom and its top do
span_on : (board : Board) (bottom top : Square) → on_board board bottom ≡ true → on_board board top ≡ true → bottom.0 ≡ top.0
    → list_all (on_board board) (span bottom top) ≡ true
span_on board bottom top on_bottom on_top column = all_from (on_board board) (span bottom top) (λ u among.
    let low = on_board_parts board bottom.0 bottom.1 on_bottom in
    let high = on_board_parts board top.0 top.1 on_top in
    let parts = span_gives bottom top u (has_from (span bottom top) u among) in
    on_board_from board u.0 u.1 (omega (arith, parts.0, low.0)) (omega (arith, low.1, parts.1)) (omega (arith, high.2, parts.2)))

-- ---- both columns

-- what the shape of a Lowinverse says of its columns
pub record LowShape (x x_top y y_top : Square) : Type 0 where
  pub order : x.0 < y.0
  pub left : IsLow x x_top
  pub right : IsLow y y_top

pub low_shape : (x x_top y y_top : Square) → (nat_lt x.0 y.0 && is_low_column x x_top && is_low_column y y_top) ≡ true → LowShape x x_top y y_top
low_shape x x_top y y_top h =
    let both = and_parts (nat_lt x.0 y.0 && is_low_column x x_top) (is_low_column y y_top) h in
    let first = and_parts (nat_lt x.0 y.0) (is_low_column x x_top) both.0 in
    record { order = ltb-true x.0 y.0 first.0; left = low_column x x_top first.1; right = low_column y y_top both.1 }

module _ (x x_top y y_top : Square) where
  abbrev zone : List Square
  zone = span x x_top ++ span y y_top

  -- it asks nothing of the board
  abbrev own_shape : Bool
  own_shape = has_shape (lowinverse x x_top y y_top) widest

  -- a shape asks only the four written squares to be on the board
  pub lowinverse_shaped : (board : Board) → is_shaped (lowinverse x x_top y y_top) board
      ≡ (nat_lt x.0 y.0 && (on_board board x && on_board board x_top && is_low_column x x_top)
      && (on_board board y && on_board board y_top && is_low_column y y_top))
  lowinverse_shaped board = agree _ _ to from
    where
      in_zone : own_shape ≡ true → list_all (on_board board) zone ≡ true → (on_board board x ≡ true) × (on_board board x_top ≡ true) × (on_board board y ≡ true)
          × (on_board board y_top ≡ true)
      in_zone h all =
          let shape = low_shape x x_top y y_top h in
          let low_x = shape.left in let low_y = shape.right in
          let on : (u : Square) → has_square zone u ≡ true
          → on_board board u ≡ true = λ u owned. all_gives (on_board board) zone u all (has_gives zone u owned) in (
            on x (has_left (span x x_top) (span y y_top) x (span_from x x_top x refl (omega arith) (omega (arith, low_x.rows)))),
            on x_top (has_left (span x x_top) (span y y_top) x_top (span_from x x_top x_top (sym low_x.column) (omega (arith, low_x.rows)) (omega arith))),
            on y (has_right (span x x_top) (span y y_top) y (span_from y y_top y refl (omega arith) (omega (arith, low_y.rows)))),
            on y_top (has_right (span x x_top) (span y y_top) y_top (span_from y y_top y_top (sym low_y.column) (omega (arith, low_y.rows)) (omega arith))),
          )

      to : is_shaped (lowinverse x x_top y y_top) board ≡ true
          → (nat_lt x.0 y.0 && (on_board board x && on_board board x_top && is_low_column x x_top)
          && (on_board board y && on_board board y_top && is_low_column y y_top)) ≡ true
      to h =
          let both = and_parts (list_all (on_board board) zone) own_shape h in
          let on = in_zone both.1 both.0 in
          let right = and_parts (nat_lt x.0 y.0 && is_low_column x x_top) (is_low_column y y_top) both.1 in
          let left = and_parts (nat_lt x.0 y.0) (is_low_column x x_top) right.0 in
          and_from _ _ (and_from _ _ left.0 (and_from _ _ (and_from _ _ on.0 on.1) left.1)) (and_from _ _ (and_from _ _ on.2 on.3) right.1)

      from : (nat_lt x.0 y.0 && (on_board board x && on_board board x_top && is_low_column x x_top)
          && (on_board board y && on_board board y_top && is_low_column y y_top)) ≡ true
          → is_shaped (lowinverse x x_top y y_top) board ≡ true
      from h =
          let right = and_parts _ (on_board board y && on_board board y_top && is_low_column y y_top) h in
          let left = and_parts (nat_lt x.0 y.0) (on_board board x && on_board board x_top && is_low_column x x_top) right.0 in
          let in_x = and_parts _ (is_low_column x x_top) left.1 in
          let in_y = and_parts _ (is_low_column y y_top) right.1 in
          let on_x = and_parts (on_board board x) (on_board board x_top) in_x.0 in
          let on_y = and_parts (on_board board y) (on_board board y_top) in_y.0 in
          let low_x = low_column x x_top in_x.1 in
          let low_y = low_column y y_top in_y.1 in
          and_from _ _ (list_all-append (on_board board) (span x x_top) (span y y_top)
          ∙ and_from _ _ (span_on board x x_top on_x.0 on_x.1 low_x.column) (span_on board y y_top on_y.0 on_y.1 low_y.column))
          (and_from _ _ (and_from _ _ left.0 in_x.1) in_y.1)

  -- a shape on one board is a shape on the widest
  pub lowinverse_widest : (board : Board) → is_board board ≡ true → is_shaped (lowinverse x x_top y y_top) board ≡ true
      → is_shaped (lowinverse x x_top y y_top) widest ≡ true
  lowinverse_widest board is h =
      let both = and_parts (list_all (on_board board) zone) own_shape h in
      let most = board_most board is in
      and_from _ _ (all_from (on_board widest) zone (λ u among.
      let parts = on_board_parts board u.0 u.1 (all_gives (on_board board) zone u both.0 among) in
      on_board_from widest u.0 u.1 (omega arith) parts.1 (omega arith))) both.1

  -- a square of one of the columns stands in the column of its top, and not above it
  pub left_under : (u : Square) → is_shaped (lowinverse x x_top y y_top) widest ≡ true → has_square (span x x_top) u ≡ true → (u.0 ≡ x_top.0) × (u.1 ≤ x_top.1)
  left_under u shaped h =
      let shape = low_shape x x_top y y_top (and_parts (list_all (on_board widest) zone) own_shape shaped).1 in
      let at = span_gives x x_top u h in (at.0 ∙ shape.left.column, at.2)

  -- the same of the other column
  pub right_under : (u : Square) → is_shaped (lowinverse x x_top y y_top) widest ≡ true → has_square (span y y_top) u ≡ true → (u.0 ≡ y_top.0) × (u.1 ≤ y_top.1)
  right_under u shaped h =
      let shape = low_shape x x_top y y_top (and_parts (list_all (on_board widest) zone) own_shape shaped).1 in
      let at = span_gives y y_top u h in (at.0 ∙ shape.right.column, at.2)

  -- the squares of the pairs are those that stand under another one of the zone
  pub lowinverse_pairs : (u : Square) → is_shaped (lowinverse x x_top y y_top) widest ≡ true
      → has_square (pair_of (lowinverse x x_top y y_top)) u ≡ (has_square zone u && (nat_le 1 u.1 && has_square zone (above u)))
  lowinverse_pairs u shaped = agree _ _
      (λ paired. elim (has_append (span x (under x_top)) (span y (under y_top)) u paired) [
        | inl left ↦ let both = step x x_top low_x left in from (has_left (span x x_top) (span y y_top) u both.0) both.1
            (has_left (span x x_top) (span y y_top) (above u) both.2)
        | inr right ↦ let both = step y y_top low_y right in from (has_right (span x x_top) (span y y_top) u both.0) both.1
            (has_right (span x x_top) (span y y_top) (above u) both.2)
      ])
      (λ stacked.
      let over = and_parts (has_square zone u) _ stacked in
      let there = (and_parts (nat_le 1 u.1) (has_square zone (above u)) over.1).1 in
      elim (has_append (span x x_top) (span y y_top) u over.0) [
        | inl left ↦ elim (has_append (span x x_top) (span y y_top) (above u) there) [
          | inl up ↦ has_left (span x (under x_top)) (span y (under y_top)) u (back x x_top left up)
          | inr beside ↦ absurd (no_step x x_top y y_top (omega (arith, shape.order)) left beside)
        ]
        | inr right ↦ elim (has_append (span x x_top) (span y y_top) (above u) there) [
          | inl beside ↦ absurd (no_step y y_top x x_top (omega (arith, shape.order)) right beside)
          | inr up ↦ has_right (span x (under x_top)) (span y (under y_top)) u (back y y_top right up)
        ]
      ])
    where
      shape : LowShape x x_top y y_top
      shape = low_shape x x_top y y_top (and_parts (list_all (on_board widest) zone) own_shape shaped).1

      ends : ((nat_lt x.0 y.0 && (on_board widest x && on_board widest x_top && is_low_column x x_top)) ≡ true)
          × ((on_board widest y && on_board widest y_top && is_low_column y y_top) ≡ true)
      ends = and_parts _ _ (sym (lowinverse_shaped widest) ∙ shaped)

      low_x : 1 ≤ x.1
      low_x = (on_board_parts widest x.0 x.1
          (and_parts (on_board widest x) _ (and_parts _ (is_low_column x x_top) (and_parts (nat_lt x.0 y.0) _ ends.0).1).0).0).1

      low_y : 1 ≤ y.1
      low_y = (on_board_parts widest y.0 y.1 (and_parts (on_board widest y) _ (and_parts _ (is_low_column y y_top) ends.1).0).0).1

      step : (bottom top : Square) → 1 ≤ bottom.1 → has_square (span bottom (under top)) u ≡ true → (has_square (span bottom top) u ≡ true)
          × (nat_le 1 u.1 ≡ true) × (has_square (span bottom top) (above u) ≡ true)
      step bottom top low h =
          let parts = span_gives bottom (under top) u h in (
            span_from bottom top u parts.0 parts.1 (omega (arith, parts.2)),
            le-leb 1 u.1 (omega (arith, parts.1)),
            span_from bottom top (above u) parts.0
                (omega (arith, parts.1)) (omega (arith, parts.1, parts.2)),
          )

      from : has_square zone u ≡ true → nat_le 1 u.1 ≡ true → has_square zone (above u) ≡ true
          → (has_square zone u && (nat_le 1 u.1 && has_square zone (above u))) ≡ true
      from here low there = and_from _ _ here (and_from _ _ low there)

      back : (bottom top : Square) → has_square (span bottom top) u ≡ true → has_square (span bottom top) (above u) ≡ true
          → has_square (span bottom (under top)) u ≡ true
      back bottom top here there =
          let parts = span_gives bottom top u here in
          let over = span_gives bottom top (above u) there in
          span_from bottom (under top) u parts.0 parts.1 (omega (arith, over.2))

      no_step : (bottom top other other_top : Square) → bottom.0 ≢ other.0 → has_square (span bottom top) u ≡ true
          → has_square (span other other_top) (above u) ≡ true → ⊥
      no_step bottom top other other_top apart here there = apart (sym (span_gives bottom top u here).0 ∙ (span_gives other other_top (above u) there).0)

-- ---- what a set has of a zone

-- whether a set meets a zone, by a test that agrees with the set on the zone
met_by : (in_set test : Square → Bool) (others us zone : List Square) → IsSetOf in_set others → IsSetOf (has_square zone) us
    → ((u : Square) → Among u zone → in_set u ≡ test u)
    → list_any (has_square others) us ≡ list_any test zone
met_by in_set test others us zone set owned same = any_in_same (has_square others) us zone owned.has
    ∙ any_same (has_square others) test zone (λ u among. set.has u ∙ same u among)

module _ (set rows odd us zone : List Square) (is_rows : IsSetOf (λ u. on_board widest u && is_odd u.1) rows)
    (is_both : IsSetOf (λ u. has_square set u && has_square rows u) odd)
    (owned : IsSetOf (has_square zone) us) where
  on_widest : (u : Square) → Among u zone → on_board widest u ≡ true
  on_widest u among = set_on (has_square zone) us owned u (has_from zone u among)

  odd_same : (u : Square) → Among u zone → (has_square set u && has_square rows u) ≡ (is_odd u.1 && has_square set u)
  odd_same u among = ap (λ b. has_square set u && b) (is_rows.has u ∙ ap (λ b. b && is_odd u.1) (on_widest u among)) ∙ and_comm (has_square set u) (is_odd u.1)

  -- the squares of odd rows
  pub odd_met : list_any (has_square odd) us ≡ list_any (λ u. is_odd u.1 && has_square set u) zone
  odd_met = met_by _ (λ u. is_odd u.1 && has_square set u) odd us zone is_both owned odd_same

  -- those of them that stand under another square of the set
  pub under_met : (low upwards : List Square) → IsSetOf (λ u. nat_le 1 u.1 && has_square set (above u)) low
      → IsSetOf (λ u. has_square odd u && has_square low u) upwards
      → list_any (has_square upwards) us ≡ list_any (λ u. is_odd u.1 && has_square set u && has_square set (above u)) zone
  under_met low upwards is_low is_upwards = met_by _ (λ u. is_odd u.1 && has_square set u && has_square set (above u)) upwards us zone is_upwards owned
      (λ u among.
      let high : nat_le 1 u.1 ≡ true = le-leb 1 u.1 (on_board_parts widest u.0 u.1 (on_widest u among)).1 in
      ap (λ b. b && has_square low u) (is_both.has u ∙ odd_same u among)
      ∙ ap (λ b. (is_odd u.1 && has_square set u) && b) (is_low.has u ∙ ap (λ b. b && has_square set (above u)) high))
