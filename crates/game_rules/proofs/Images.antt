-- The mirror image of a position: its men, its lines, its end and its moves are those of the position, seen from the other
-- side of the board.
use Rattle.std.proofs.Common.{◌≡◌, ℕ, ◌+◌, ◌-◌, ◌%◌, ◌<◌, ◌≤◌, nat_lt, true, not, ◌&&◌, ◌==◌, cond, List, [], ◌∷◌, ◌++◌, length, map, reverse}
use Rattle.std.proofs.Common.{Some, None, is_none, refl, sym, ap, ◌∙◌, subst, inl, inr, arith, length-set, slice_set, sum_by}
use Rattle.std.specs.List.{AllByRecursion, list_any, slice_index_or}
use Rattle.std.specs.Option.{option_map}
use Rattle.std.proofs.lemmas.Bool.{cases_Bool, cases_eq, both_ways, false_from_ne_true, lt-ltb}
use Rattle.std.proofs.lemmas.List.{length-reverse, reverse-reverse, get_or-reverse, get_or-set_same, get_or-set_other, ext_get_or}
use Rattle.std.proofs.lemmas.Grind.{reverse_onto}
use Rattle.std.proofs.lemmas.List.Sums.{sum_by-append, sum_by-cons}
use Rattle.game_rules.specs.Board.{Square, below, on_board, step_of, line_length}
use Rattle.game_rules.specs.Position.{Position, board_of, men_in, height, man_in, man_at, has_man, is_man, man_count, side_to_move, has_room}
use Rattle.game_rules.specs.Position.{after_move, has_line, is_full, end_of, is_legal, played, empty_count, moved, open_columns, IsStacked}
use Rattle.game_rules.specs.Laws.{HasLine}
use Rattle.game_rules.specs.Mirror.{mirror, mirror_column, mirror_square}
use Rattle.game_rules.proofs.Lists.{Among, any_agree, any_from, Among-below, Among-below_gives, Among-map, Among-map_gives, Among-filter, Among-filter_gives}
use Rattle.game_rules.proofs.Moves.{cols_moved}
use Rattle.game_rules.proofs.Ends.{has_line_gives, has_line_from, on_board_parts, on_board_from, some_length}
use Rattle.game_rules.specs.declared.Side.{Side}
use Rattle.game_rules.specs.declared.Side.TheVariants.{White, Black}
use Rattle.game_rules.specs.declared.End.TheVariants as ends
use Rattle.game_rules.specs.declared.Way.{Way}
use Rattle.game_rules.specs.declared.Way.TheVariants.{H, V, U, D}

-- ---- lists from their other end

pub sum_reversed : {X : Type 0} (f : X → ℕ) (xs : List X) → sum_by f (reverse xs) ≡ sum_by f xs
sum_reversed f [] = refl
sum_reversed f (x ∷ xs) =
    let behind = ap (sum_by f) (reverse_onto xs x []) in
    let sums = sum_by-append f (reverse xs) (x ∷ []) in
    let last = sum_by-cons f x [] in
    let whole = sum_by-cons f x xs in
    omega (arith, behind, sums, last, whole, sum_reversed f xs)

pub set_reversed : {X : Type 0} (d : X) (xs : List X) (c : ℕ) (x : X) → c < length xs
    → slice_set (reverse xs) (length xs - (c + 1)) x ≡ reverse (slice_set xs c x)
set_reversed d xs c x within =
    ext_get_or d (slice_set (reverse xs) (length xs - (c + 1)) x) (reverse (slice_set xs c x))
    (long ∙ sym (length-reverse (slice_set xs c x) ∙ length-set xs c x))
    (λ k low. each k (omega (arith, long)))
  where
    long : length (slice_set (reverse xs) (length xs - (c + 1)) x) ≡ length xs
    long = length-set (reverse xs) (length xs - (c + 1)) x ∙ length-reverse xs

    each : (k : ℕ) → k < length xs → slice_index_or (slice_set (reverse xs) (length xs - (c + 1)) x) k d ≡ slice_index_or (reverse (slice_set xs c x)) k d
    each k low =
        let back = get_or-reverse (slice_set xs c x) k d (omega (arith, length-set xs c x))
        ∙ ap (λ n. slice_index_or (slice_set xs c x) (n - 1 - k) d) (length-set xs c x) in
        elim (cases_eq k (length xs - (c + 1))) [
          | inl here ↦
              ap (λ k. slice_index_or (slice_set (reverse xs) (length xs - (c + 1)) x) k d) here
              ∙ get_or-set_same (reverse xs) (length xs - (c + 1)) x d (omega (arith, length-reverse xs))
              ∙ sym (get_or-set_same xs c x d within)
              ∙ ap (λ i. slice_index_or (slice_set xs c x) i d) (let e : c ≡ length xs - 1 - k = omega arith in e)
              ∙ sym back
          | inr apart ↦
              get_or-set_other (reverse xs) (length xs - (c + 1)) k x d apart
              ∙ get_or-reverse xs k d low
              ∙ sym (get_or-set_other xs c (length xs - 1 - k) x d (λ e. apart (omega arith)))
              ∙ sym back
        ]

-- ---- men

pub twice : (p : Position) → mirror (mirror p) ≡ p
twice p = ap (λ men. record p { columns = men }) (reverse-reverse p.columns)

pub cols_mirrored : (p : Position) → length (mirror p).columns ≡ length p.columns
cols_mirrored p = length-reverse p.columns

pub board_mirrored : (p : Position) → board_of (mirror p) ≡ board_of p
board_mirrored p = ap (λ n. record { cols = n; rows = p.rows; len = p.len }) (cols_mirrored p)

pub men_mirrored : (p : Position) (c : ℕ) → c < length p.columns → men_in (mirror p) (mirror_column (length p.columns) c) ≡ men_in p c
men_mirrored p c within =
    get_or-reverse p.columns (mirror_column (length p.columns) c) [] (omega arith)
    ∙ ap (men_in p) (let e : length p.columns - 1 - mirror_column (length p.columns) c ≡ c = omega arith in e)

pub man_mirrored : (p : Position) (s : Square) → s.0 < length p.columns → man_at (mirror p) (mirror_square (length p.columns) s) ≡ man_at p s
man_mirrored p (c, r) within = ap (λ men. man_in men r) (men_mirrored p c within)

pub count_mirrored : (p : Position) → man_count (mirror p) ≡ man_count p
count_mirrored p = sum_reversed length p.columns

pub empty_mirrored : (p : Position) → empty_count (mirror p) ≡ empty_count p
empty_mirrored p = sum_reversed (λ men. p.rows - length men) p.columns

-- no column is higher than before
pub stacked_mirrored : (p : Position) → IsStacked p → IsStacked (mirror p)
stacked_mirrored p stacked i d low =
    let within : i < length p.columns = omega (arith, low, cols_mirrored p) in
    subst (λ (men : List Side). length men ≤ p.rows) (sym (get_or-reverse p.columns i d within)) (stacked (length p.columns - 1 - i) d (omega arith))

pub turn_mirrored : (p : Position) → side_to_move (mirror p) ≡ side_to_move p
turn_mirrored p = ap (λ n. cond ((n % 2) == 0) White Black) (count_mirrored p)

-- ---- moves

pub room_mirrored : (p : Position) (c : ℕ) → c < length p.columns → has_room (mirror p) (mirror_column (length p.columns) c) ≡ has_room p c
room_mirrored p c within =
    ap (λ n. nat_lt (mirror_column (length p.columns) c) n && nat_lt (height (mirror p) (mirror_column (length p.columns) c)) p.rows) (cols_mirrored p)
    ∙ ap (λ b. b && nat_lt (height (mirror p) (mirror_column (length p.columns) c)) p.rows)
    (lt-ltb (mirror_column (length p.columns) c) (length p.columns) (omega arith) ∙ sym (lt-ltb c (length p.columns) within))
    ∙ ap (λ (men : List Side). nat_lt c (length p.columns) && nat_lt (length men) p.rows) (men_mirrored p c within)

pub move_mirrored : (p : Position) (c : ℕ) → c < length p.columns
    → after_move (mirror p) (mirror_column (length p.columns) c) ≡ mirror (after_move p c)
move_mirrored p c within =
    ap (λ men. record p { columns = slice_set (reverse p.columns) (mirror_column (length p.columns) c) (men ++ side_to_move (mirror p) ∷ []) })
    (men_mirrored p c within)
    ∙ ap (λ side. record p { columns = slice_set (reverse p.columns) (mirror_column (length p.columns) c) (men_in p c ++ side ∷ []) }) (turn_mirrored p)
    ∙ ap (λ men. record p { columns = men }) (set_reversed [] p.columns c (men_in p c ++ side_to_move p ∷ []) within)

-- ---- lines

-- how a line of some direction runs, seen from the other side, and from which square
abbrev mirror_way : Way → Way
mirror_way H = H
mirror_way V = V
mirror_way U = D
mirror_way D = U

abbrev mirror_anchor : ℕ → ℕ → Way → Square → Square
mirror_anchor cols k H s = mirror_square cols (step_of H s k)
mirror_anchor cols k V s = mirror_square cols s
mirror_anchor cols k U s = mirror_square cols (step_of U s k)
mirror_anchor cols k D s = mirror_square cols (step_of D s k)

-- which step of the line stands at a step of its image, the last step being k
abbrev step_back : Way → ℕ → ℕ → ℕ
step_back H k i = k - i
step_back V k i = i
step_back U k i = k - i
step_back D k i = k - i

back_within : (way : Way) (k i : ℕ) → i ≤ k → step_back way k i ≤ k
back_within H k i low = omega arith
back_within V k i low = low
back_within U k i low = omega arith
back_within D k i low = omega arith

square_same : (s t : Square) → s.0 ≡ t.0 → s.1 ≡ t.1 → s ≡ t
square_same (a, b) (c, d) left right = rw (left, right) refl

steps_mirrored : (cols k : ℕ) (way : Way) (s : Square) (i : ℕ) → i ≤ k → (step_of way s k).0 < cols → 1 ≤ (step_of way s k).1
    → step_of (mirror_way way) (mirror_anchor cols k way s) i ≡ mirror_square cols (step_of way s (step_back way k i))
steps_mirrored cols k H (c, r) i low within high = square_same _ _ (omega arith) refl
steps_mirrored cols k V (c, r) i low within high = refl
steps_mirrored cols k U (c, r) i low within high = square_same _ _ (omega arith) (omega arith)
steps_mirrored cols k D (c, r) i low within high = square_same _ _ (omega arith) (omega arith)

line_mirrored : (p : Position) (side : Side) → HasLine p side → HasLine (mirror p) side
line_mirrored p side line =
    let two = some_length p.len in
    let last : line_length p.len - 1 < line_length p.len = omega arith in
    at (line_length p.len - 1) (λ i low. omega arith) (λ i low. omega arith) last
  where
    cols : ℕ
    cols = length p.columns

    at : (k : ℕ) → ((i : ℕ) → i < line_length p.len → i ≤ k) → ((i : ℕ) → i ≤ k → i < line_length p.len) → k < line_length p.len → HasLine (mirror p) side
    at k to from last =
        let end = on_board_parts (board_of p) (step_of line.way line.anchor k).0 (step_of line.way line.anchor k).1 (line.on_the_board k last) in
        record {
          way = mirror_way line.way;
          anchor = mirror_anchor cols k line.way line.anchor;
          on_the_board = λ i low.
              subst (λ s. on_board (board_of (mirror p)) s ≡ true) (sym (steps_mirrored cols k line.way line.anchor i (to i low) end.0 end.1))
              (on (step_of line.way line.anchor (step_back line.way k i))
              (line.on_the_board (step_back line.way k i) (from (step_back line.way k i) (back_within line.way k i (to i low)))));
          owned = λ i low.
              subst (λ s. has_man (mirror p) side s ≡ true) (sym (steps_mirrored cols k line.way line.anchor i (to i low) end.0 end.1))
              (owns (step_of line.way line.anchor (step_back line.way k i))
              (line.on_the_board (step_back line.way k i) (from (step_back line.way k i) (back_within line.way k i (to i low))))
              (line.owned (step_back line.way k i) (from (step_back line.way k i) (back_within line.way k i (to i low)))));
        }
      where
        on : (s : Square) → on_board (board_of p) s ≡ true → on_board (board_of (mirror p)) (mirror_square cols s) ≡ true
        on (c, r) h = let parts = on_board_parts (board_of p) c r h in
            on_board_from (board_of (mirror p)) (mirror_column cols c) r (omega (arith, parts.0, cols_mirrored p)) parts.1 parts.2

        owns : (s : Square) → on_board (board_of p) s ≡ true → has_man p side s ≡ true → has_man (mirror p) side (mirror_square cols s) ≡ true
        owns (c, r) h man = let parts = on_board_parts (board_of p) c r h in ap (is_man side) (man_mirrored p (c, r) parts.0) ∙ man

pub has_line_mirrored : (p : Position) (side : Side) → has_line (mirror p) side ≡ has_line p side
has_line_mirrored p side = elim (cases_Bool (has_line p side)) [
  | inl line ↦ has_line_from (mirror p) side (line_mirrored p side (has_line_gives p side line)) ∙ sym line
  | inr none ↦ false_from_ne_true _ (λ line. both_ways _ none (subst (λ q. has_line q side ≡ true) (twice p)
      (has_line_from (mirror (mirror p)) side (line_mirrored (mirror p) side (has_line_gives (mirror p) side line))))) ∙ sym none
]

-- ---- the end, and games

open_mirrored : (p : Position) (c : ℕ) → Among c (below (length p.columns)) → has_room p c ≡ true
    → list_any (has_room (mirror p)) (below (length (mirror p).columns)) ≡ true
open_mirrored p c among room = let within = Among-below_gives (length p.columns) c among in
    any_from (has_room (mirror p)) (below (length (mirror p).columns)) (mirror_column (length p.columns) c)
    (Among-below (length (mirror p).columns) (mirror_column (length p.columns) c) (omega (arith, cols_mirrored p))) (room_mirrored p c within ∙ room)

full_mirrored : (p : Position) → is_full (mirror p) ≡ is_full p
full_mirrored p = ap not (any_agree (has_room (mirror p)) (has_room p) (below (length (mirror p).columns)) (below (length p.columns))
    (λ c among room. subst (λ q. list_any (has_room q) (below (length q.columns)) ≡ true) (twice p) (open_mirrored (mirror p) c among room))
    (open_mirrored p))

pub end_mirrored : (p : Position) → end_of (mirror p) ≡ end_of p
end_mirrored p =
    ap (λ b. cond b (Some ends.White) (cond (has_line (mirror p) Black) (Some ends.Black) (cond (is_full (mirror p)) (Some ends.Draw) None)))
    (has_line_mirrored p White)
    ∙ ap (λ b. cond (has_line p White) (Some ends.White) (cond b (Some ends.Black) (cond (is_full (mirror p)) (Some ends.Draw) None)))
    (has_line_mirrored p Black)
    ∙ ap (λ b. cond (has_line p White) (Some ends.White) (cond (has_line p Black) (Some ends.Black) (cond b (Some ends.Draw) None))) (full_mirrored p)

pub legal_mirrored : (p : Position) (c : ℕ) → c < length p.columns → is_legal (mirror p) (mirror_column (length p.columns) c) ≡ is_legal p c
legal_mirrored p c within =
    ap (λ e. is_none e && has_room (mirror p) (mirror_column (length p.columns) c)) (end_mirrored p)
    ∙ ap (λ b. is_none (end_of p) && b) (room_mirrored p c within)

pub played_mirrored : (p : Position) (cs : List ℕ) → AllByRecursion (λ c. c < length p.columns) cs
    → played (mirror p) (map (mirror_column (length p.columns)) cs) ≡ option_map mirror (played p cs)
played_mirrored p [] each = refl
played_mirrored p (c ∷ cs) each =
    ap (λ b. cond b (played (after_move (mirror p) (mirror_column (length p.columns) c)) (map (mirror_column (length p.columns)) cs)) None)
    (legal_mirrored p c each.0)
    ∙ elim (cases_Bool (is_legal p c)) [
      | inl legal ↦ rw legal (
          ap (λ q. played q (map (mirror_column (length p.columns)) cs)) (move_mirrored p c each.0)
          ∙ ap (λ n. played (mirror (after_move p c)) (map (mirror_column n) cs)) (sym (cols_moved p c))
          ∙ played_mirrored (after_move p c) cs (subst (λ n. AllByRecursion (λ c. c < n) cs) (sym (cols_moved p c)) each.1))
      | inr barred ↦ rw barred refl
    ]

-- the image of a position after a move is one after a move from the image
pub moved_mirrored : (p q : Position) → Among q (moved p) → Among (mirror q) (moved (mirror p))
moved_mirrored p q among =
    let found = Among-map_gives (after_move p) (open_columns p) q among in
    let column = Among-filter_gives (has_room p) (below (length p.columns)) found.0 found.1 in
    let within = Among-below_gives (length p.columns) found.0 column.0 in
    subst (λ r. Among r (moved (mirror p))) (move_mirrored p found.0 within ∙ ap mirror found.2)
    (Among-map (after_move (mirror p)) (open_columns (mirror p)) (mirror_column (length p.columns) found.0)
    (Among-filter (has_room (mirror p)) (below (length (mirror p).columns)) (mirror_column (length p.columns) found.0)
    (Among-below (length (mirror p).columns) (mirror_column (length p.columns) found.0) (omega (arith, within, cols_mirrored p)))
    (room_mirrored p found.0 within ∙ column.1)))
