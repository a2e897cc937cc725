-- Lists narrowed by one test after another, and the squares of a board among those of the widest one.
use Rattle.std.proofs.Common.{◌≡◌, ℕ, Bool, true, ◌&&◌, List, [], ◌∷◌, map, filter, refl, sym, ap, ◌∙◌, inl, inr, arith}
use Rattle.std.proofs.lemmas.Bool.{cases_Bool, and_parts}
use Rattle.game_rules.specs.Board.{Board, Square, on_board, is_cols, is_rows, is_board}
use Rattle.game_rules.specs.Squares.{squares_of_board, squares_where, widest}
use Rattle.game_rules.specs.declared.Length.{Length}
use Rattle.game_rules.proofs.Ends.{on_board_parts, on_board_from}
use Rattle.game_rules.proofs.Groups.{of_cols, of_rows, board_most}

-- ---- tests one after another

-- a weaker test first changes nothing
pub filter_within : {X : Type 0} (f g : X → Bool) (xs : List X) → ((x : X) → f x ≡ true → g x ≡ true) → filter f (filter g xs) ≡ filter f xs
filter_within f g [] within = refl
filter_within f g (x ∷ xs) within = elim (cases_Bool (f x)) [
  | inl passes ↦ rw (within x passes, passes) (ap (λ ys. x ∷ ys) (filter_within f g xs within))
  | inr fails ↦ elim (cases_Bool (g x)) [
    | inl weaker ↦ rw (weaker, fails) (filter_within f g xs within)
    | inr none ↦ rw (none, fails) (filter_within f g xs within)
  ]
]

-- two tests are one
pub filter_both : {X : Type 0} (f g : X → Bool) (xs : List X) → filter g (filter f xs) ≡ filter (λ x. f x && g x) xs
filter_both f g [] = refl
filter_both f g (x ∷ xs) = elim (cases_Bool (f x)) [
  | inr fails ↦ rw fails (filter_both f g xs)
  | inl passes ↦ elim (cases_Bool (g x)) [
    | inl too ↦ rw (passes, too) (ap (λ ys. x ∷ ys) (filter_both f g xs))
    | inr other ↦ rw (passes, other) (filter_both f g xs)
  ]
]

-- what passes of what some elements stand for
pub filter_map_by : {X Y : Type 0} (f : X → Y) (test : Y → Bool) (xs : List X) → filter test (map f xs) ≡ map f (filter (λ x. test (f x)) xs)
filter_map_by f test [] = refl
filter_map_by f test (x ∷ xs) = elim (cases_Bool (test (f x))) [
  | inl passes ↦ rw passes (ap (λ ys. f x ∷ ys) (filter_map_by f test xs))
  | inr fails ↦ rw fails (filter_map_by f test xs)
]

-- ---- the squares of a board

abbrev Trimmed : Length → ℕ → ℕ → Type 0
Trimmed len cols rows = squares_of_board (record { cols = cols; rows = rows; len = len }) ≡ filter (on_board (record { cols = cols; rows = rows; len = len }))
    (squares_of_board widest)

-- the squares of a board are those of the widest one that it has
pub board_squares : (b : Board) → is_board b ≡ true → squares_of_board b ≡ filter (on_board b) (squares_of_board widest)
unfolding squares_of_board
board_squares b h =
    let both = and_parts (is_cols b.cols) (is_rows b.rows) h in
    of_cols (λ cols. (rows : ℕ) → is_rows rows ≡ true → Trimmed b.len cols rows)
    (of_rows (Trimmed b.len 4) refl refl refl refl)
    (of_rows (Trimmed b.len 5) refl refl refl refl)
    (of_rows (Trimmed b.len 6) refl refl refl refl)
    (of_rows (Trimmed b.len 7) refl refl refl refl)
    (of_rows (Trimmed b.len 8) refl refl refl refl)
    (of_rows (Trimmed b.len 9) refl refl refl refl)
    (of_rows (Trimmed b.len 10) refl refl refl refl) b.cols both.0 b.rows both.1

-- the squares of a board are on the widest one
pub on_widest : (b : Board) → is_board b ≡ true → (u : Square) → on_board b u ≡ true → on_board widest u ≡ true
on_widest b h (c, r) on =
    let parts = on_board_parts b c r on in
    let most = board_most b h in
    on_board_from widest c r (omega (arith, parts.0, most.0)) parts.1 (omega (arith, parts.2, most.1))

-- squares of a board that pass a test, as a set
pub where_on_board : (b : Board) (test : Square → Bool) → is_board b ≡ true → ((u : Square) → test u ≡ true → on_board b u ≡ true)
    → squares_where test ≡ filter test (squares_of_board b)
unfolding squares_where
where_on_board b test h within = sym (filter_within test (on_board b) (squares_of_board widest) within) ∙ ap (filter test) (sym (board_squares b h))
