-- What a fit comes down to where the shape is known.
use Rattle.std.proofs.Common.{◌≡◌, ◌+◌, ◌-◌, ◌<◌, ◌≤◌, ◌%◌, true, ◌&&◌, ◌++◌, is_none, refl, sym, ap, ◌∙◌, subst, inl, inr, arith}
use Rattle.std.specs.List.{list_all}
use Rattle.std.proofs.lemmas.Bool.{and_parts, and_from, or_cases, eqb-true}
use Rattle.std.proofs.lemmas.List.Folds.{list_all-append}
use Rattle.game_rules.specs.Board.{Board, Square, on_board, is_cols, is_rows, is_board}
use Rattle.game_rules.specs.Position.{Position, board_of, height, men_in}
use Rattle.game_rules.specs.Squares.{widest, is_empty, is_playable}
use Rattle.game_rules.proofs.Ends.{on_board_parts, on_board_from}
use Rattle.game_rules.proofs.Lists.{Among, Among-append_left, Among-append_right, all_gives, all_from}
use Rattle.game_rules.proofs.Groups.{of_rows}
use Rattle.game_rules.proofs.Moves.{man_past}
use Rattle.game_rules.proofs.Squares.{agree, has_gives, has_from}
use Rattle.plan_rules.specs.Squares.{above, under, is_even, is_odd, column_up, span}
use Rattle.plan_rules.specs.Rules.{RuleInstance, baseinverse, lowinverse, highinverse, baseclaim, vertical, zone_of, has_shape, is_shaped, is_grounded}
use Rattle.plan_rules.specs.Rules.{fits_besides, fits}
use Rattle.plan_rules.proofs.Spans.{span_gives, span_from, low_shape}
use Rattle.plan_rules.proofs.Turns.{playable_parts, playable_empty, empty_parts}
use Rattle.plan_rules.proofs.Grounds.{fits_empty, fits_more}

-- an empty square is on the board, so the zone need not be tried for that
pub fits_where : (w : RuleInstance) (p : Position) → (fits_besides w p ≡ true → has_shape w (board_of p) ≡ true)
    → fits w p ≡ (list_all (is_empty p) (zone_of w) && fits_besides w p)
fits_where w p shape = agree _ _ (λ h. and_from _ _ (fits_empty w p h) (fits_more w p h)) (λ h.
    let both = and_parts (list_all (is_empty p) (zone_of w)) (fits_besides w p) h in
    and_from _ _ (and_from _ _ (and_from _ _ (all_from _ (zone_of w) (λ u among. (empty_parts p u (all_gives (is_empty p) (zone_of w) u both.0 among)).0))
    (shape both.1)) both.0) both.1)

-- and where the rule asks for playable squares, not for that either
fits_free : (w : RuleInstance) (p : Position) → has_shape w (board_of p) ≡ true → (fits_besides w p ≡ true → list_all (is_empty p) (zone_of w) ≡ true)
    → fits w p ≡ fits_besides w p
fits_free w p shape free = fits_where w p (λ h. shape) ∙ agree _ _ (λ h. (and_parts (list_all (is_empty p) (zone_of w)) _ h).1) (λ h. and_from _ _ (free h) h)

-- what an instance has on the widest board besides its squares
shape_given : (w : RuleInstance) → is_shaped w widest ≡ true → has_shape w widest ≡ true
shape_given w h = (and_parts (list_all (on_board widest) (zone_of w)) (has_shape w widest) h).1

-- playable squares are empty ones of the board
pub baseinverse_fits : (s t : Square) (p : Position) → is_shaped (baseinverse s t) widest ≡ true
    → fits (baseinverse s t) p ≡ (is_playable p s && is_playable p t)
baseinverse_fits s t p shaped = fits_free (baseinverse s t) p (shape_given (baseinverse s t) shaped) (λ h.
    let both = and_parts (is_playable p s) (is_playable p t) h in
    and_from _ _ (playable_empty p s both.0) (and_from _ _ (playable_empty p t both.1) refl))

-- a board has an even number of rows
pub even_rows : (b : Board) → is_board b ≡ true → b.rows % 2 ≡ 0
even_rows b board = eqb-true (b.rows % 2) 0 (of_rows (λ n. is_even n ≡ true) refl refl refl refl b.rows (and_parts (is_cols b.cols) (is_rows b.rows) board).1)

-- above a playable square on an odd row there is another, and it is empty
pub empty_over : (p : Position) (u : Square) → is_board (board_of p) ≡ true → is_odd u.1 ≡ true → is_playable p u ≡ true → is_empty p (above u) ≡ true
empty_over p u board odd playable =
    let parts = playable_parts p u playable in
    let row : u.1 % 2 ≡ 1 = eqb-true (u.1 % 2) 1 odd in
    let rows = even_rows (board_of p) board in
    let within : u.1 + 1 ≤ p.rows = omega (arith, parts.2) in
    and_from _ _ (on_board_from (board_of p) u.0 (u.1 + 1) parts.0 (omega arith) within)
    (ap is_none (man_past (men_in p u.0) (u.1 + 1) (omega (arith, parts.1))))

-- so three playable squares are enough
pub baseclaim_fits : (a b e : Square) (p : Position) → is_shaped (baseclaim a b e) widest ≡ true → is_board (board_of p) ≡ true
    → fits (baseclaim a b e) p ≡ (is_playable p a && is_playable p b && is_playable p e)
baseclaim_fits a b e p shaped board = let shape = shape_given (baseclaim a b e) shaped in fits_free (baseclaim a b e) p shape (λ h.
    let e_open = and_parts _ (is_playable p e) h in
    let both = and_parts (is_playable p a) (is_playable p b) e_open.0 in
    let odd_b : is_odd b.1 ≡ true = (and_parts _ _ (and_parts _ _ shape).0).1 in
    and_from _ _ (playable_empty p a both.0)
    (and_from _ _ (playable_empty p b both.1) (and_from _ _ (playable_empty p e e_open.1) (and_from _ _ (empty_over p b board odd_b both.1) refl))))

-- two empty squares are two of the board
pub vertical_fits : (e : Square) (p : Position) → is_shaped (vertical e) widest ≡ true → fits (vertical e) p ≡ (is_empty p e && is_empty p (above e))
vertical_fits e p shaped = let even : is_even e.1 ≡ true = (and_parts _ _ (shape_given (vertical e) shaped)).1 in fits_where (vertical e) p (λ h.
    let both = and_parts (is_empty p e) (is_empty p (above e)) h in
    and_from _ _ (and_from _ _ (empty_parts p e both.0).0 (empty_parts p (above e) both.1).0) even)

-- ---- inverses

-- the squares of a column from a square above its men up to one of the board are empty
column_free : (p : Position) (bottom top : Square) → bottom.0 ≡ top.0 → height p bottom.0 < bottom.1 → on_board (board_of p) top ≡ true
    → list_all (is_empty p) (span bottom top) ≡ true
column_free p bottom top column high on = all_from (is_empty p) (span bottom top) (λ u among.
    let at = span_gives bottom top u (has_from (span bottom top) u among) in
    let parts = on_board_parts (board_of p) top.0 top.1 on in
    and_from _ _ (on_board_from (board_of p) u.0 u.1 (omega (arith, at.0, column, parts.0)) (omega (arith, at.1)) (omega (arith, at.2, parts.2)))
    (ap is_none (man_past (men_in p u.0) u.1 (omega (arith, at.1, ap (height p) at.0)))))

-- the last square of such a column
top_in : (bottom top : Square) → bottom.0 ≡ top.0 → bottom.1 ≤ top.1 → Among top (span bottom top)
top_in bottom top column low = has_gives (span bottom top) top (span_from bottom top top (sym column) low (omega arith))

-- on its ground, each column begins above the men
over_ground : (p : Position) (x y : Square) → is_grounded p x y ≡ true → (height p x.0 < x.1) × (height p y.0 < y.1)
over_ground p x y h = elim (or_cases _ _ h) [
  | inl stand ↦ let both = and_parts (is_playable p x) (is_playable p y) stand in let left = playable_parts p x both.0 in let right = playable_parts p y both.1
      in (omega (arith, left.1), omega (arith, right.1))
  | inr near ↦
      let both = and_parts (is_playable p (under x)) (is_playable p (under y)) near in
      let left = playable_parts p (under x) both.0 in
      let right = playable_parts p (under y) both.1 in
      (omega (arith, left.1), omega (arith, right.1))
]

-- an inverse fits where its tops are on the board and its columns stand on their ground
module _ (w : RuleInstance) (p : Position) (x x_top y y_top : Square) (zone : zone_of w ≡ span x x_top ++ span y y_top)
    (besides : fits_besides w p ≡ is_grounded p x y)
    (column_x : x.0 ≡ x_top.0) (column_y : y.0 ≡ y_top.0) (low_x : x.1 ≤ x_top.1) (low_y : y.1 ≤ y_top.1) where
  grounded_fits : has_shape w (board_of p) ≡ true → fits w p ≡ (on_board (board_of p) x_top && on_board (board_of p) y_top && is_grounded p x y)
  grounded_fits shape = fits_where w p (λ h. shape) ∙ agree _ _ to from
    where
      on_top : (u : Square) → list_all (is_empty p) (zone_of w) ≡ true → Among u (span x x_top ++ span y y_top) → on_board (board_of p) u ≡ true
      on_top u free among = (empty_parts p u (all_gives (is_empty p) (zone_of w) u free (subst (λ us. Among u us) (sym zone) among))).0

      to : (list_all (is_empty p) (zone_of w) && fits_besides w p) ≡ true → (on_board (board_of p) x_top && on_board (board_of p) y_top && is_grounded p x y)
          ≡ true
      to h =
          let both = and_parts (list_all (is_empty p) (zone_of w)) (fits_besides w p) h in
          and_from _ _ (and_from _ _ (on_top x_top both.0 (Among-append_left x_top (span x x_top) (span y y_top) (top_in x x_top column_x low_x)))
          (on_top y_top both.0 (Among-append_right y_top (span x x_top) (span y y_top) (top_in y y_top column_y low_y)))) (sym besides ∙ both.1)

      from : (on_board (board_of p) x_top && on_board (board_of p) y_top && is_grounded p x y) ≡ true
          → (list_all (is_empty p) (zone_of w) && fits_besides w p) ≡ true
      from h =
          let grounded = and_parts _ (is_grounded p x y) h in
          let tops = and_parts (on_board (board_of p) x_top) (on_board (board_of p) y_top) grounded.0 in
          let over = over_ground p x y grounded.1 in
          and_from _ _ (subst (λ us. list_all (is_empty p) us ≡ true) (sym zone) (list_all-append (is_empty p) (span x x_top) (span y y_top)
          ∙ and_from _ _ (column_free p x x_top column_x over.0 tops.0) (column_free p y y_top column_y over.1 tops.1)))
          (besides ∙ grounded.1)

-- the tops of a Highinverse are the third squares of its columns
pub highinverse_grounded : (x y : Square) (p : Position) → has_shape (highinverse x y) (board_of p) ≡ true
    → fits (highinverse x y) p ≡ (on_board (board_of p) (above (above x)) && on_board (board_of p) (above (above y)) && is_grounded p x y)
highinverse_grounded x y p = grounded_fits (highinverse x y) p x (above (above x)) y (above (above y)) spans refl refl refl (omega arith) (omega arith)
  where
    three : (u : Square) → 3 ≡ (above (above u)).1 + 1 - u.1
    three u = omega arith

    spans : column_up x 3 ++ column_up y 3 ≡ span x (above (above x)) ++ span y (above (above y))
    spans = ap (λ n. column_up x n ++ column_up y 3) (three x) ∙ ap (λ n. span x (above (above x)) ++ column_up y n) (three y)

pub highinverse_fits : (x y : Square) (p : Position) → is_shaped (highinverse x y) widest ≡ true
    → fits (highinverse x y) p ≡ (on_board (board_of p) (above (above x)) && on_board (board_of p) (above (above y)) && is_grounded p x y)
highinverse_fits x y p shaped = highinverse_grounded x y p (shape_given (highinverse x y) shaped)

-- those of a Lowinverse are written
pub lowinverse_grounded : (x x_top y y_top : Square) (p : Position) → has_shape (lowinverse x x_top y y_top) (board_of p) ≡ true
    → fits (lowinverse x x_top y y_top) p ≡ (on_board (board_of p) x_top && on_board (board_of p) y_top && is_grounded p x y)
lowinverse_grounded x x_top y y_top p shape =
    let columns = low_shape x x_top y y_top shape in
    let low_x = columns.left in let low_y = columns.right in
    grounded_fits (lowinverse x x_top y y_top) p x x_top y y_top refl refl low_x.column low_y.column (omega (arith, low_x.rows)) (omega (arith, low_y.rows))
    shape

pub lowinverse_fits : (x x_top y y_top : Square) (p : Position) → is_shaped (lowinverse x x_top y y_top) widest ≡ true
    → fits (lowinverse x x_top y y_top) p ≡ (on_board (board_of p) x_top && on_board (board_of p) y_top && is_grounded p x y)
lowinverse_fits x x_top y y_top p shaped = lowinverse_grounded x x_top y y_top p (shape_given (lowinverse x x_top y y_top) shaped)
