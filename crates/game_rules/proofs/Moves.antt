-- What a move changes, and what it leaves: the men of the columns, how many there are, and who is to move.
use Rattle.std.proofs.Common.{◌≡◌, ◌&&◌, ◌==◌, ◌≢◌, ℕ, zero, suc, ◌+◌, ◌-◌, ◌%◌, ◌<◌, ◌≤◌, true, false, cond, List, [], ◌∷◌, ◌++◌, length, Some, None, refl}
use Rattle.std.proofs.Common.{sym, ap, ◌∙◌, inl, inr, arith, add-one, length-set}
use Rattle.std.specs.List.{slice_get}
use Rattle.std.proofs.lemmas.List.{get_or-set_same, get_or-set_other, length_push}
use Rattle.std.proofs.lemmas.List.Sums.{sum_by-set}
use Rattle.std.proofs.lemmas.List.Elements.{All-set}
use Rattle.std.proofs.lemmas.Bool.{cases_eq, and_parts, and_from, ltb-true, lt-ltb, eqb-true, eq-eqb, ne_eqb}
use Rattle.std.proofs.lemmas.Slice.Eq.{slice_eq-Decides}
use Rattle.std.specs.Bool.{Decides}
use Rattle.std.specs.Cmp.Lexicographic.{pointwise}
use Rattle.game_rules.specs.Position.{Position, board_of, other, same_side, same_position, men_in, height, man_in, man_at, man_count, side_to_move, has_room}
use Rattle.game_rules.specs.Position.{empty_count, after_move, IsStacked}
use Rattle.game_rules.specs.Board.{same_length}
use Rattle.game_rules.specs.declared.Length.{Length}
use Rattle.game_rules.specs.declared.Length.TheVariants.{Four, Five}
use Rattle.game_rules.specs.declared.Side.{Side}
use Rattle.game_rules.specs.declared.Side.TheVariants.{White, Black}

pub same_side_refl : (side : Side) → same_side side side ≡ true
same_side_refl White = refl
same_side_refl Black = refl

pub same_side_is : (a b : Side) → same_side a b ≡ true → a ≡ b
same_side_is White White h = refl
same_side_is White Black h = cc
same_side_is Black White h = cc
same_side_is Black Black h = refl

pub other_side : (a b : Side) → same_side a b ≡ false → b ≡ other a
other_side White White h = cc
other_side White Black h = refl
other_side Black White h = refl
other_side Black Black h = cc

pub other_other : (side : Side) → other (other side) ≡ side
other_other White = refl
other_other Black = refl

-- the test of two positions says whether they are equal
pub same_side_Decides : (a b : Side) → Decides (same_side a b) (a ≡ b)
same_side_Decides a b = (same_side_is a b, λ e. rw e (same_side_refl b))

pub same_length_refl : (len : Length) → same_length len len ≡ true
same_length_refl Four = refl
same_length_refl Five = refl

pub same_length_is : (a b : Length) → same_length a b ≡ true → a ≡ b
same_length_is Four Four h = refl
same_length_is Four Five h = cc
same_length_is Five Four h = cc
same_length_is Five Five h = refl

pub same_position_Decides : (p q : Position) → Decides (same_position p q) (p ≡ q)
same_position_Decides p q = (to, from)
  where
    columns : Decides (pointwise (pointwise same_side) p.columns q.columns) (p.columns ≡ q.columns)
    columns = slice_eq-Decides (λ (a b : List Side). slice_eq-Decides same_side_Decides a b (pointwise same_side a b) refl) p.columns q.columns
        (pointwise (pointwise same_side) p.columns q.columns) refl

    to : same_position p q ≡ true → p ≡ q
    to h =
        let both = and_parts (p.rows == q.rows && same_length p.len q.len) (pointwise (pointwise same_side) p.columns q.columns) h in
        let board = and_parts (p.rows == q.rows) (same_length p.len q.len) both.0 in
        ap (λ n. record p { rows = n }) (eqb-true p.rows q.rows board.0)
        ∙ ap (λ len. record q { len = len; columns = p.columns }) (same_length_is p.len q.len board.1)
        ∙ ap (λ men. record q { columns = men }) (columns.0 both.1)

    from : p ≡ q → same_position p q ≡ true
    from e = and_from _ _ (and_from _ _ (eq-eqb p.rows q.rows (ap (λ (r : Position). r.rows) e)) (ap (λ (r : Position). same_length p.len r.len) (sym e)
        ∙ same_length_refl p.len)) (columns.1 (ap (λ (r : Position). r.columns) e))

-- ---- a column

pub man_past : (men : List Side) (row : ℕ) → length men < row → man_in men row ≡ None
man_past [] zero h = refl
man_past [] (suc i) h = refl
man_past (m ∷ men) zero h = absurd (omega arith)
man_past (m ∷ men) (suc zero) h = absurd (omega arith)
man_past (m ∷ men) (suc (suc i)) h = man_past men (suc i) (omega arith)

pub man_within : (men : List Side) (row : ℕ) → 1 ≤ row → row ≤ length men → (m : Side) × (man_in men row ≡ Some m)
man_within [] row low high = absurd (omega arith)
man_within (m ∷ men) zero low high = absurd (omega arith)
man_within (m ∷ men) (suc zero) low high = (m, refl)
man_within (m ∷ men) (suc (suc i)) low high = man_within men (suc i) (omega arith) (omega arith)

pub man_pushed : (men : List Side) (m : Side) → man_in (men ++ m ∷ []) (length men + 1) ≡ Some m
man_pushed men m = rw add-one (pushed men m)
  where
    pushed : (men : List Side) (m : Side) → slice_get (men ++ m ∷ []) (length men) ≡ Some m
    pushed [] m = refl
    pushed (x ∷ men) m = pushed men m

pub man_kept : (men : List Side) (m : Side) (row : ℕ) → row ≢ length men + 1 → man_in (men ++ m ∷ []) row ≡ man_in men row
man_kept men m zero h = refl
man_kept [] m (suc zero) h = absurd (h (omega arith))
man_kept [] m (suc (suc i)) h = refl
man_kept (x ∷ men) m (suc zero) h = refl
man_kept (x ∷ men) m (suc (suc i)) h = man_kept men m (suc i) (λ e. h (omega arith))

-- ---- a move

pub men_moved : (p : Position) (column : ℕ) → column < length p.columns → men_in (after_move p column) column ≡ men_in p column ++ side_to_move p ∷ []
men_moved p column h = get_or-set_same p.columns column (men_in p column ++ side_to_move p ∷ []) [] h

pub men_beside : (p : Position) (column d : ℕ) → d ≢ column → men_in (after_move p column) d ≡ men_in p d
men_beside p column d h = get_or-set_other p.columns column d (men_in p column ++ side_to_move p ∷ []) [] h

pub cols_moved : (p : Position) (column : ℕ) → length (after_move p column).columns ≡ length p.columns
cols_moved p column = length-set p.columns column (men_in p column ++ side_to_move p ∷ [])

pub board_moved : (p : Position) (column : ℕ) → board_of (after_move p column) ≡ board_of p
board_moved p column = ap (λ n. record { cols = n; rows = p.rows; len = p.len }) (cols_moved p column)

-- the man stands on the lowest empty square
pub placed : (p : Position) (column : ℕ) → column < length p.columns → man_at (after_move p column) (column, height p column + 1) ≡ Some (side_to_move p)
placed p column h = ap (λ men. man_in men (height p column + 1)) (men_moved p column h) ∙ man_pushed (men_in p column) (side_to_move p)

-- every other square is as it was
pub unchanged : (p : Position) (column c r : ℕ) → column < length p.columns → (c ≡ column → r ≢ height p column + 1)
    → man_at (after_move p column) (c, r) ≡ man_at p (c, r)
unchanged p column c r h apart = elim (cases_eq c column) [
  | inl same ↦ rw same (ap (λ men. man_in men r) (men_moved p column h) ∙ man_kept (men_in p column) (side_to_move p) r (apart same))
  | inr beside ↦ ap (λ men. man_in men r) (men_beside p column c beside)
]

-- the square was empty before
pub was_empty : (p : Position) (column : ℕ) → man_at p (column, height p column + 1) ≡ None
was_empty p column = man_past (men_in p column) (height p column + 1) (omega arith)

pub room_column : (p : Position) (column : ℕ) → has_room p column ≡ true → column < length p.columns
room_column p column h = ltb-true column (length p.columns) (and_parts _ _ h).0

pub room_height : (p : Position) (column : ℕ) → has_room p column ≡ true → height p column < p.rows
room_height p column h = ltb-true (height p column) p.rows (and_parts _ _ h).1

pub room_from : (p : Position) (column : ℕ) → column < length p.columns → height p column < p.rows → has_room p column ≡ true
room_from p column within low = and_from _ _ (lt-ltb column (length p.columns) within) (lt-ltb (height p column) p.rows low)

pub man_count_moved : (p : Position) (column : ℕ) → column < length p.columns → man_count (after_move p column) ≡ man_count p + 1
man_count_moved p column h = omega (
  arith,
  sum_by-set length p.columns column (men_in p column ++ side_to_move p ∷ []) [] h,
  length_push (men_in p column) (side_to_move p),
)

pub height_moved : (p : Position) (column : ℕ) → column < length p.columns → height (after_move p column) column ≡ height p column + 1
height_moved p column h = ap length (men_moved p column h) ∙ length_push (men_in p column) (side_to_move p)

-- a move fills one square
pub empty_count_moved : (p : Position) (column : ℕ) → has_room p column ≡ true → empty_count (after_move p column) + 1 ≡ empty_count p
empty_count_moved p column h =
    let within : column < length p.columns = room_column p column h in
    let low : height p column < p.rows = room_height p column h in
    let men = men_in p column ++ side_to_move p ∷ [] in
    omega (arith, sum_by-set (λ men. p.rows - length men) p.columns column men [] within, length_push (men_in p column) (side_to_move p), low)

pub side_moved : (p : Position) (column : ℕ) → column < length p.columns → side_to_move (after_move p column) ≡ other (side_to_move p)
side_moved p column h =
    let more : man_count (after_move p column) ≡ man_count p + 1 = man_count_moved p column h in
    turned (man_count p) (man_count (after_move p column)) more
  where
    turned : (m n : ℕ) → n ≡ m + 1 → cond ((n % 2) == 0) White Black ≡ other (cond ((m % 2) == 0) White Black)
    turned m n e = elim (cases_eq (m % 2) 0) [
      | inl even ↦ rw (eq-eqb (m % 2) 0 even, ne_eqb (n % 2) 0 (λ h. omega arith)) refl
      | inr odd ↦ rw (ne_eqb (m % 2) 0 odd, eq-eqb (n % 2) 0 (omega arith)) refl
    ]

-- moves keep every column within the rows
pub stacked_moved : (p : Position) (column : ℕ) → IsStacked p → has_room p column ≡ true → IsStacked (after_move p column)
stacked_moved p column stacked h =
    let low : height p column < p.rows = room_height p column h in
    All-set (λ men. length men ≤ p.rows) p.columns column (men_in p column ++ side_to_move p ∷ [])
    (omega (arith, length_push (men_in p column) (side_to_move p), low)) stacked
