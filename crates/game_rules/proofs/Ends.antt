-- How a game ends: lines as tests and as squares, full boards, and what legal moves keep.
use Rattle.std.proofs.Common.{◌≡◌, ◌≢◌, ◌⊎◌, ◌↔◌, ℕ, zero, suc, ◌+◌, ◌-◌, ◌%◌, ◌<◌, ◌≤◌, Bool, true, false, ◌&&◌, ◌==◌, List, [], ◌∷◌, length, replicate}
use Rattle.std.proofs.Common.{Option, Some, None, is_none, refl, sym, ap, ◌∙◌, subst, inl, inr, arith, add-one, lit<}
use Rattle.std.specs.List.{list_any, list_all}
use Rattle.std.proofs.lemmas.Bool.{cases_Bool, cases_eq, cases_lt, both_ways, and_parts, and_from, ltb-true, lt-ltb, le-leb, leb-true, eqb-true, eq-eqb}
use Rattle.std.proofs.lemmas.Bool.{false_from_ne_true, not_from_false, not-true}
use Rattle.std.proofs.lemmas.List.{get_or-replicate, length-replicate, get_or_past, ext_get_or}
use Rattle.std.proofs.lemmas.List.Elements.{All-replicate}
use Rattle.std.proofs.lemmas.List.Folds.{sum_by-replicate}
use Rattle.game_rules.specs.Board.{Board, Square, below, on_board, step_of, line_at, line_length, is_line, ways}
use Rattle.game_rules.specs.Position.{Position, board_of, empty_position, other, men_in, height, man_in, man_at, has_man, is_man, man_count, same_side}
use Rattle.game_rules.specs.Position.{side_to_move}
use Rattle.game_rules.specs.Position.{has_room, after_move, has_line_at, has_line_in_column, has_line_along, has_line, is_full, end_of, is_legal, played}
use Rattle.game_rules.specs.Position.{IsStacked}
use Rattle.game_rules.specs.Laws.{HasLine, IsFilled, DropsMan}
use Rattle.game_rules.proofs.Lists.{Among, any_gives, any_from, any_same, all_gives, all_from, Among-map, Among-map_gives, Among-below, Among-below_gives}
use Rattle.game_rules.proofs.Lists.{chosen}
use Rattle.game_rules.proofs.Moves.{man_within, placed, unchanged, was_empty, board_moved, room_column, room_height, room_from, stacked_moved, man_count_moved}
use Rattle.game_rules.specs.declared.Length.{Length}
use Rattle.game_rules.specs.declared.Length.TheVariants.{Four, Five}
use Rattle.game_rules.specs.declared.Side.{Side}
use Rattle.game_rules.specs.declared.Side.TheVariants.{White, Black}
use Rattle.game_rules.specs.declared.End.{End}
use Rattle.game_rules.specs.declared.End.TheVariants as ends
use Rattle.game_rules.specs.declared.Way.{Way}
use Rattle.game_rules.specs.declared.Way.TheVariants.{H, V, U, D}
use Rattle.game_rules.specs.contracts.SidePartialEq.TheImpl as side_eq
use Rattle.game_rules.specs.contracts.EndPartialEq.TheImpl as end_eq
use Rattle.game_rules.specs.Value.{same_end}
use Rattle.std.proofs.lemmas.Option.{same_Some}

pub disjoint : (p : Position) (s : Square) → has_man p White s ≡ true → has_man p Black s ≡ true → ⊥
disjoint p s white black = one (man_at p s) white black
  where
    one : (m : Option Side) → is_man White m ≡ true → is_man Black m ≡ true → ⊥
    one None white black = cc
    one (Some White) white black = cc
    one (Some Black) white black = cc

-- ---- lines

pub Among-ways : (way : Way) → Among way ways
Among-ways H = inl refl
Among-ways V = inr (inl refl)
Among-ways U = inr (inr (inl refl))
Among-ways D = inr (inr (inr (inl refl)))

-- the first square of a line is its anchor
pub step_none : (way : Way) (s : Square) → step_of way s 0 ≡ s
step_none H (c, r) = ap (λ n. (n, r)) (omega arith)
step_none V (c, r) = ap (λ n. (c, n)) (omega arith)
step_none U (c, r) = let over : c + 0 ≡ c = omega arith in let up : r + 0 ≡ r = omega arith in rw (over, up) refl
step_none D (c, r) = let over : c + 0 ≡ c = omega arith in let up : r - 0 ≡ r = omega arith in rw (over, up) refl

-- a line has at least two squares
pub some_length : (len : Length) → 1 < line_length len
some_length Four = lit< tt
some_length Five = lit< tt

pub each_step : (test : Square → Bool) (len : Length) (way : Way) (s : Square) → list_all test (line_at len way s) ≡ true → (i : ℕ) → i < line_length len
    → test (step_of way s i) ≡ true
each_step test len way s h i low = all_gives test (line_at len way s) (step_of way s i) h
    (Among-map (step_of way s) (below (line_length len)) i (Among-below (line_length len) i low))

pub from_steps : (test : Square → Bool) (len : Length) (way : Way) (s : Square) → ((i : ℕ) → i < line_length len → test (step_of way s i) ≡ true)
    → list_all test (line_at len way s) ≡ true
from_steps test len way s each = all_from test (line_at len way s) (λ u among.
    let from = Among-map_gives (step_of way s) (below (line_length len)) u among in
    subst (λ u. test u ≡ true) from.2 (each from.0 (Among-below_gives (line_length len) from.0 from.1)))

pub has_line_gives : (p : Position) (side : Side) → has_line p side ≡ true → HasLine p side
has_line_gives p side h =
    let along = any_gives (has_line_along p side) ways h in
    let column = any_gives (has_line_in_column p side along.0) (below (length p.columns)) along.2 in
    let row = any_gives (λ i. has_line_at p side along.0 (column.0, i + 1)) (below p.rows) column.2 in
    let both = and_parts (is_line (board_of p) along.0 (column.0, row.0 + 1)) (list_all (has_man p side) (line_at p.len along.0 (column.0, row.0 + 1))) row.2 in
    record {
      way = along.0;
      anchor = (column.0, row.0 + 1);
      on_the_board = each_step (on_board (board_of p)) p.len along.0 (column.0, row.0 + 1) both.0;
      owned = each_step (has_man p side) p.len along.0 (column.0, row.0 + 1) both.1;
    }

pub on_board_parts : (b : Board) (c r : ℕ) → on_board b (c, r) ≡ true → (c < b.cols) × (1 ≤ r) × (r ≤ b.rows)
on_board_parts b c r h =
    let both = and_parts _ _ h in let rows = and_parts _ _ both.1 in
    (ltb-true c b.cols both.0, leb-true 1 r rows.0, leb-true r b.rows rows.1)

pub on_board_from : (b : Board) (c r : ℕ) → c < b.cols → 1 ≤ r → r ≤ b.rows → on_board b (c, r) ≡ true
on_board_from b c r within low high = and_from _ _ (lt-ltb c b.cols within) (and_from _ _ (le-leb 1 r low) (le-leb r b.rows high))

pub has_line_from : (p : Position) (side : Side) → HasLine p side → has_line p side ≡ true
has_line_from p side line = at line.way line.anchor line.on_the_board line.owned
  where
    first_step : 0 < line_length p.len
    first_step = let two = some_length p.len in omega arith

    at : (way : Way) (s : Square) → ((i : ℕ) → i < line_length p.len → on_board (board_of p) (step_of way s i) ≡ true)
        → ((i : ℕ) → i < line_length p.len → has_man p side (step_of way s i) ≡ true) → has_line p side ≡ true
    at way (c, zero) inside owned = let first =
        on_board_parts (board_of p) c 0 (subst (λ s. on_board (board_of p) s ≡ true) (step_none way (c, 0)) (inside 0 first_step)) in absurd (omega arith)
    at way (c, suc i) inside owned =
        let first = on_board_parts (board_of p) c (suc i) (subst (λ s. on_board (board_of p) s ≡ true) (step_none way (c, suc i)) (inside 0 first_step)) in
        let line : has_line_at p side way (c, suc i) ≡ true = and_from _ _ (from_steps (on_board (board_of p)) p.len way (c, suc i) inside)
        (from_steps (has_man p side) p.len way (c, suc i) owned) in
        any_from (has_line_along p side) ways way (Among-ways way)
        (any_from (has_line_in_column p side way) (below (length p.columns)) c (Among-below (length p.columns) c first.0)
        (any_from (λ i. has_line_at p side way (c, i + 1)) (below p.rows) i (Among-below p.rows i (omega arith)) (rw add-one line)))

-- ---- full boards

pub filled_from_full : (p : Position) → is_full p ≡ true → IsFilled p
filled_from_full p full (c, r) inside none =
    let on = on_board_parts (board_of p) c r inside in
    elim (cases_Bool (has_room p c)) [
      | inl room ↦ both_ways (list_any (has_room p) (below (length p.columns))) (not-true _ full)
          (any_from (has_room p) (below (length p.columns)) c (Among-below (length p.columns) c on.0) room)
      | inr closed ↦ high (cases_lt (height p c) r) on.0 on.1 on.2 closed
    ]
  where
    high : (height p c < r) ⊎ (r ≤ height p c) → c < length p.columns → 1 ≤ r → r ≤ p.rows → has_room p c ≡ false → ⊥
    high (inr low) within first last closed = let some = man_within (men_in p c) r first low in cc (some.1, none)
    high (inl above) within first last closed = both_ways (has_room p c) closed (room_from p c within (omega arith))

pub full_from_filled : (p : Position) → IsFilled p → is_full p ≡ true
full_from_filled p filled = not_from_false _ (false_from_ne_true _ (λ some.
    let found = any_gives (has_room p) (below (length p.columns)) some in
    let low : height p found.0 < p.rows = room_height p found.0 found.2 in
    filled (found.0, height p found.0 + 1)
    (on_board_from (board_of p) found.0 (height p found.0 + 1) (room_column p found.0 found.2) (omega arith) (omega arith)) (was_empty p found.0)))

-- ---- the end

-- a test at each square decides a line
pub has_line_same : (p q : Position) (side : Side) → board_of p ≡ board_of q → ((s : Square) → has_man p side s ≡ has_man q side s)
    → has_line p side ≡ has_line q side
has_line_same p q side board same =
    any_same (has_line_along p side) (has_line_along q side) ways (λ way _.
    ap (λ n. list_any (has_line_in_column p side way) (below n)) cols
    ∙ any_same (has_line_in_column p side way) (has_line_in_column q side way) (below (length q.columns)) (λ c _.
    ap (λ n. list_any (λ i. has_line_at p side way (c, i + 1)) (below n)) rows
    ∙ any_same (λ i. has_line_at p side way (c, i + 1)) (λ i. has_line_at q side way (c, i + 1)) (below q.rows) (λ i _.
    ap (λ (b : Board). is_line b way (c, i + 1) && list_all (has_man p side) (line_at b.len way (c, i + 1))) board
    ∙ ap (λ b. is_line (board_of q) way (c, i + 1) && b) (all_same (line_at q.len way (c, i + 1))))))
  where
    cols : length p.columns ≡ length q.columns
    cols = ap (λ (b : Board). b.cols) board

    rows : p.rows ≡ q.rows
    rows = ap (λ (b : Board). b.rows) board

    all_same : (ss : List Square) → list_all (has_man p side) ss ≡ list_all (has_man q side) ss
    all_same [] = refl
    all_same (s ∷ ss) = ap (λ b. b && list_all (has_man p side) ss) (same s) ∙ ap (λ b. has_man q side s && b) (all_same ss)

pub cases_square : (s t : Square) → (s ≡ t) ⊎ (s.0 ≡ t.0 → s.1 ≢ t.1)
cases_square (a, b) (c, d) = elim (cases_eq a c) [
  | inr apart ↦ inr (λ same. absurd (apart same))
  | inl column ↦ elim (cases_eq b d) [
    | inl row ↦ inl (rw (column, row) refl)
    | inr apart ↦ inr (λ _. apart)
  ]
]

-- the other side's men are as before
pub other_kept : (p : Position) (column : ℕ) → has_room p column ≡ true → (s : Square)
    → has_man (after_move p column) (other (side_to_move p)) s ≡ has_man p (other (side_to_move p)) s
other_kept p column room s = elim (cases_square s (column, height p column + 1)) [
  | inl here ↦ rw here (ap (is_man (other (side_to_move p))) (placed p column (room_column p column room)) ∙ not_own (side_to_move p)
      ∙ sym (ap (is_man (other (side_to_move p))) (was_empty p column)))
  | inr apart ↦ ap (is_man (other (side_to_move p))) (unchanged p column s.0 s.1 (room_column p column room) apart)
]
  where
    not_own : (side : Side) → is_man (other side) (Some side) ≡ false
    not_own White = refl
    not_own Black = refl

pub ended_parts : (p : Position) → (end_of p ≡ None) → (has_line p White ≡ false) × (has_line p Black ≡ false) × (is_full p ≡ false)
ended_parts p h = elim (chosen (has_line p White) (Some ends.White) _ None h) [
  | inl won ↦ absurd (cc won.1)
  | inr rest ↦ elim (chosen (has_line p Black) (Some ends.Black) _ None rest.1) [
    | inl lost ↦ absurd (cc lost.1)
    | inr more ↦ elim (chosen (is_full p) (Some ends.Draw) None None more.1) [
      | inl full ↦ absurd (cc full.1)
      | inr going ↦ (rest.0, more.0, going.0)
    ]
  ]
]

-- what a legal move rests on
pub legal_parts : (p : Position) (column : ℕ) → is_legal p column ≡ true → (end_of p ≡ None) × (has_room p column ≡ true)
legal_parts p column h = let both = and_parts (is_none (end_of p)) (has_room p column) h in (none (end_of p) both.0, both.1)
  where
    none : (e : Option End) → is_none e ≡ true → e ≡ None
    none None h = refl
    none (Some e) h = cc

-- while the game went on before the move, the side that didn't move has no line after it
pub none_for_other : (p : Position) (column : ℕ) → is_legal p column ≡ true → has_line (after_move p column) (other (side_to_move p)) ≡ false
none_for_other p column h =
    let parts = legal_parts p column h in let going = ended_parts p parts.0 in
    has_line_same (after_move p column) p (other (side_to_move p)) (board_moved p column) (other_kept p column parts.1)
    ∙ of_side (side_to_move p) going.0 going.1
  where
    of_side : (side : Side) → has_line p White ≡ false → has_line p Black ≡ false → has_line p (other side) ≡ false
    of_side White white black = black
    of_side Black white black = white

-- the same of a position that is the one after the move, and of a side that is the one that made it
pub none_behind : (p : Position) (column : ℕ) {q : Position} {side : Side} → q ≡ after_move p column → side ≡ side_to_move p → is_legal p column ≡ true
    → has_line q (other side) ≡ false
none_behind p column after mover legal = rw (after, mover) (none_for_other p column legal)

-- A property of the empty position that legal moves keep holds along each list of legal moves.
module _ (P : Position → Type 0) (keeps : (p : Position) (column : ℕ) → P p → is_legal p column ≡ true → P (after_move p column)) where
  pub kept_along : (columns : List ℕ) (p q : Position) → P p → played p columns ≡ Some q → P q
  kept_along [] p q h e = subst P (same_Some p q e) h
  kept_along (column ∷ columns) p q h e = elim (chosen (is_legal p column) (played (after_move p column) columns) None (Some q) e) [
    | inl legal ↦ kept_along columns (after_move p column) q (keeps p column h legal.0) legal.1
    | inr not_legal ↦ absurd (cc not_legal.1)
  ]

-- not both sides have a line
abbrev OneLine : Position → Type 0
OneLine p = has_line p White ≡ true → has_line p Black ≡ true → ⊥

one_line_moved : (p : Position) (column : ℕ) → OneLine p → is_legal p column ≡ true → OneLine (after_move p column)
one_line_moved p column h legal white black = of_side (side_to_move p) (none_for_other p column legal)
  where
    of_side : (side : Side) → has_line (after_move p column) (other side) ≡ false → ⊥
    of_side White none = both_ways _ none black
    of_side Black none = both_ways _ none white

-- the empty position
empty_men : (board : Board) (c : ℕ) → men_in (empty_position board) c ≡ []
empty_men board c = elim (cases_lt c board.cols) [
  | inl within ↦ get_or-replicate board.cols c [] [] within
  | inr past ↦ get_or_past (replicate board.cols []) c [] (omega (arith, length-replicate {A = List Side} board.cols []))
]

pub empty_no_man : (board : Board) (side : Side) (s : Square) → has_man (empty_position board) side s ≡ false
empty_no_man board side (c, r) = ap (λ men. is_man side (man_in men r)) (empty_men board c) ∙ ap (is_man side) (nobody r)
  where
    nobody : (r : ℕ) → man_in [] r ≡ None
    nobody zero = refl
    nobody (suc i) = refl

one_line_first : (board : Board) → OneLine (empty_position board)
one_line_first board white black =
    let line = has_line_gives (empty_position board) White white in
    both_ways _ (empty_no_man board White (step_of line.way line.anchor 0)) (line.owned 0 (let two = some_length board.len in omega arith))

pub one_line_along : (board : Board) (columns : List ℕ) (p : Position) → played (empty_position board) columns ≡ Some p → OneLine p
one_line_along board columns p e = kept_along OneLine one_line_moved columns (empty_position board) p (one_line_first board) e

pub stacked_along : (board : Board) (columns : List ℕ) (p : Position) → played (empty_position board) columns ≡ Some p → IsStacked p
stacked_along board columns p e =
    kept_along IsStacked (λ q column h legal. stacked_moved q column h (legal_parts q column legal).1) columns (empty_position board) p
    (All-replicate (λ (men : List Side). length men ≤ board.rows) board.cols [] (omega arith)) e

pub lines_apart : (board : Board) (columns : List ℕ) (p : Position) → played (empty_position board) columns ≡ Some p → HasLine p White → HasLine p Black → ⊥
lines_apart board columns p e white black = one_line_along board columns p e (has_line_from p White white) (has_line_from p Black black)

pub white_end : (p : Position) → (end_of p ≡ Some ends.White) ↔ HasLine p White
white_end p = (to, from)
  where
    to : end_of p ≡ Some ends.White → HasLine p White
    to h = elim (chosen (has_line p White) (Some ends.White) _ (Some ends.White) h) [
      | inl won ↦ has_line_gives p White won.0
      | inr rest ↦ elim (chosen (has_line p Black) (Some ends.Black) _ (Some ends.White) rest.1) [
        | inl lost ↦ absurd (cc lost.1)
        | inr more ↦ elim (chosen (is_full p) (Some ends.Draw) None (Some ends.White) more.1)
            [ inl full ↦ absurd (cc full.1) | inr going ↦ absurd (cc going.1) ]
      ]
    ]

    from : HasLine p White → end_of p ≡ Some ends.White
    from line = rw (has_line_from p White line) refl

black_end_to : (p : Position) → end_of p ≡ Some ends.Black → (has_line p White ≡ false) × (has_line p Black ≡ true)
black_end_to p h = elim (chosen (has_line p White) (Some ends.White) _ (Some ends.Black) h) [
  | inl won ↦ absurd (cc won.1)
  | inr rest ↦ elim (chosen (has_line p Black) (Some ends.Black) _ (Some ends.Black) rest.1) [
    | inl lost ↦ (rest.0, lost.0)
    | inr more ↦ elim (chosen (is_full p) (Some ends.Draw) None (Some ends.Black) more.1) [ inl full ↦ absurd (cc full.1) | inr going ↦ absurd (cc going.1) ]
  ]
]

pub black_end : (board : Board) (columns : List ℕ) (p : Position) → played (empty_position board) columns ≡ Some p → (end_of p ≡ Some ends.Black)
    ↔ HasLine p Black
black_end board columns p e = (λ h. has_line_gives p Black (black_end_to p h).1, from)
  where
    from : HasLine p Black → end_of p ≡ Some ends.Black
    from line =
        let black : has_line p Black ≡ true = has_line_from p Black line in
        let white : has_line p White ≡ false = false_from_ne_true _ (λ white. one_line_along board columns p e white black) in
        rw (white, black) refl

pub draw_end : (p : Position) → (end_of p ≡ Some ends.Draw) ↔ (IsFilled p × (HasLine p White → ⊥) × (HasLine p Black → ⊥))
draw_end p = (to, from)
  where
    to : end_of p ≡ Some ends.Draw → IsFilled p × (HasLine p White → ⊥) × (HasLine p Black → ⊥)
    to h = elim (chosen (has_line p White) (Some ends.White) _ (Some ends.Draw) h) [
      | inl won ↦ absurd (cc won.1)
      | inr rest ↦ elim (chosen (has_line p Black) (Some ends.Black) _ (Some ends.Draw) rest.1) [
        | inl lost ↦ absurd (cc lost.1)
        | inr more ↦ elim (chosen (is_full p) (Some ends.Draw) None (Some ends.Draw) more.1) [
          | inl full ↦ (
            filled_from_full p full.0,
            λ line. both_ways _ rest.0 (has_line_from p White line),
            λ line.
                both_ways _ more.0 (has_line_from p Black line),
          )
          | inr going ↦ absurd (cc going.1)
        ]
      ]
    ]

    from : IsFilled p × (HasLine p White → ⊥) × (HasLine p Black → ⊥) → end_of p ≡ Some ends.Draw
    from (filled, no_white, no_black) =
        let white : has_line p White ≡ false = false_from_ne_true _ (λ h. no_white (has_line_gives p White h)) in
        let black : has_line p Black ≡ false = false_from_ne_true _ (λ h. no_black (has_line_gives p Black h)) in
        let full : is_full p ≡ true = full_from_filled p filled in
        rw (white, black, full) refl

-- ---- what a move does

pub drops : (p : Position) (column : ℕ) → is_legal p column ≡ true → DropsMan p column
drops p column legal =
    let room : has_room p column ≡ true = (legal_parts p column legal).1 in
    let within : column < length p.columns = room_column p column room in
    let low : height p column < p.rows = room_height p column room in
    record {
      on_the_board = on_board_from (board_of p) column (height p column + 1) within (omega arith) (omega arith);
      was_empty = was_empty p column;
      filled_below = λ row first last none. let some = man_within (men_in p column) row first last in cc (some.1, none);
      now_held = placed p column within;
      others = λ s apart. unchanged p column s.0 s.1 within (λ same same_row. apart (pair_same s same same_row));
      same_board = board_moved p column;
    }
  where
    pair_same : (s : Square) → s.0 ≡ column → s.1 ≡ height p column + 1 → s ≡ (column, height p column + 1)
    pair_same (c, r) column_same row_same = rw (column_same, row_same) refl

pub parity : (p : Position) → (side_to_move p ≡ White) ↔ (man_count p % 2 ≡ 0)
parity p = (to, λ h. rw (eq-eqb (man_count p % 2) 0 h) refl)
  where
    to : side_to_move p ≡ White → man_count p % 2 ≡ 0
    to h = elim (chosen ((man_count p % 2) == 0) White Black White h) [ inl even ↦ eqb-true (man_count p % 2) 0 even.0 | inr odd ↦ absurd (cc odd.1) ]

empty_man_count : (board : Board) → man_count (empty_position board) ≡ 0
empty_man_count board = omega (arith, sum_by-replicate (λ (men : List Side). length men) board.cols [])

pub man_count_along : (board : Board) (columns : List ℕ) (p : Position) → played (empty_position board) columns ≡ Some p → man_count p ≡ length columns
man_count_along board columns p e = let more : man_count p ≡ man_count (empty_position board) + length columns = along columns (empty_position board) e in
    omega (arith, empty_man_count board)
  where
    along : (columns : List ℕ) (q : Position) → played q columns ≡ Some p → man_count p ≡ man_count q + length columns
    along [] q e = let same : q ≡ p = cc in omega (arith, ap man_count same)
    along (column ∷ columns) q e = elim (chosen (is_legal q column) (played (after_move q column) columns) None (Some p) e) [
      | inl legal ↦ omega (arith, along columns (after_move q column) legal.1, man_count_moved q column (room_column q column (legal_parts q column legal.0).1))
      | inr not_legal ↦ absurd (cc not_legal.1)
    ]

-- ---- positions and their squares

same_men : (xs ys : List Side) → ((r : ℕ) → man_in xs r ≡ man_in ys r) → xs ≡ ys
same_men [] [] same = refl
same_men [] (y ∷ ys) same = absurd (cc (same 1))
same_men (x ∷ xs) [] same = absurd (cc (same 1))
same_men (x ∷ xs) (y ∷ ys) same =
    let head : Some x ≡ Some y = same 1 in
    let first : x ≡ y = cc in
    first_rest first (same_men xs ys rest)
  where
    rest : (r : ℕ) → man_in xs r ≡ man_in ys r
    rest zero = refl
    rest (suc i) = same (suc (suc i))

    first_rest : x ≡ y → xs ≡ ys → x ∷ xs ≡ y ∷ ys
    first_rest e f = rw (e, f) refl

same_man : (m n : Option Side) → ((side : Side) → is_man side m ≡ is_man side n) → m ≡ n
same_man None None same = refl
same_man None (Some White) same = absurd (cc (same White))
same_man None (Some Black) same = absurd (cc (same Black))
same_man (Some White) None same = absurd (cc (same White))
same_man (Some White) (Some White) same = refl
same_man (Some White) (Some Black) same = absurd (cc (same White))
same_man (Some Black) None same = absurd (cc (same Black))
same_man (Some Black) (Some White) same = absurd (cc (same Black))
same_man (Some Black) (Some Black) same = refl

pub same_by_squares : (p q : Position) → board_of p ≡ board_of q → ((side : Side) (s : Square) → has_man p side s ≡ has_man q side s) → p ≡ q
same_by_squares p q board same =
    let rows : p.rows ≡ q.rows = ap (λ (b : Board). b.rows) board in
    let columns : p.columns ≡ q.columns = ext_get_or [] p.columns q.columns (ap (λ (b : Board). b.cols) board)
    (λ c _. same_men (men_in p c) (men_in q c) (λ r. same_man (man_at p (c, r)) (man_at q (c, r)) (λ side. same side (c, r)))) in
    ap (λ n. record p { rows = n }) rows ∙ ap (λ (b : Board). record q { len = b.len; columns = p.columns }) board
    ∙ ap (λ men. record q { columns = men }) columns

-- ---- equality in code

-- sides are equal in code as in the definitions
pub side_same : (a b : Side) → side_eq.eq-value.it a b ≡ same_side a b
side_same White White = refl
side_same White Black = refl
side_same Black White = refl
side_same Black Black = refl

-- and so are ends
pub end_same : (a b : End) → end_eq.eq-value.it a b ≡ same_end a b
end_same ends.White ends.White = refl
end_same ends.White ends.Black = refl
end_same ends.White ends.Draw = refl
end_same ends.Black ends.White = refl
end_same ends.Black ends.Black = refl
end_same ends.Black ends.Draw = refl
end_same ends.Draw ends.White = refl
end_same ends.Draw ends.Black = refl
end_same ends.Draw ends.Draw = refl
