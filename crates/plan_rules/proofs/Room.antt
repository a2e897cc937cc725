-- How many instances of a kind fit at most, on any board.
use Rattle.std.proofs.Common.{◌≡◌, ◌⊎◌, ℕ, ◌+◌, ◌-◌, ◌*◌, ◌%◌, ◌≤◌, Bool, true, not, ◌&&◌, ◌||◌, ◌==◌, nat_lt, nat_le, cond, List, [], ◌∷◌, length, map, filter}
use Rattle.std.proofs.Common.{refl, sym, ap, ◌∙◌, inl, inr, arith}
use Rattle.std.specs.List.{list_all, sum_by}
use Rattle.std.proofs.lemmas.Bool.{cases_Bool, and_parts, and_from, or_cases, or_left, or_right, eqb-true, leb-true, le-leb}
use Rattle.std.proofs.lemmas.List.{length-map}
use Rattle.std.proofs.lemmas.List.Concat.{length-flat_map}
use Rattle.std.proofs.lemmas.List.Sums.{sum_by-le-sum_by, length-filter, count_by-le-length}
use Rattle.game_rules.specs.Board.{Board, Square, below, on_board, is_line, is_board, ways}
use Rattle.game_rules.specs.declared.Length.{Length}
use Rattle.game_rules.specs.declared.Length.TheVariants.{Four, Five}
use Rattle.game_rules.specs.declared.Way.{Way}
use Rattle.game_rules.specs.Position.{Position, board_of, height}
use Rattle.game_rules.specs.Squares.{has_square, squares_in_column, squares_of_board, widest, widest_with, is_playable}
use Rattle.game_rules.specs.Groups.{Group, squares_of, lies_on, group_on, groups_along, groups_of}
use Rattle.game_rules.proofs.Groups.{on_each_size, board_most, line_widest, groups_fit}
use Rattle.game_rules.proofs.Lists.{all_gives}
use Rattle.game_rules.proofs.Squares.{Among-board}
use Rattle.plan_rules.specs.Squares.{above, under, is_even, is_odd}
use Rattle.plan_rules.specs.Rules.{RuleInstance, claimeven, baseinverse, lowinverse, highinverse, baseclaim, vertical, aftereven, before, specialbefore}
use Rattle.plan_rules.specs.Rules.{is_low_column, is_grounded, is_low_line, fits}
use Rattle.plan_rules.specs.declared.Kind.{Kind}
use Rattle.plan_rules.specs.declared.Kind.TheVariants as kinds
use Rattle.plan_rules.specs.Listing.{squares_at, playable_squares, is_bottom, tops_over, low_columns, each_with, fitting, if_fits, listed, most_listed}
use Rattle.plan_rules.proofs.Grounds.{fits_shape, fits_more}
use Rattle.plan_rules.proofs.Fitting.{fitting_parts}
use Rattle.game_rules.proofs.Narrowed.{on_widest}
use Rattle.plan_rules.proofs.Sums.{where_passes, sum_filter, sum_map, sum_flat, sum_each, sum_ones, sum_nothing, sum_swap, by_columns, board_more}
use Rattle.game_rules.specs.declared.TheConstants.{MOST_GROUPS}

-- what fits is at most the sum of numbers of which each is 1 at least where an instance fits
fit_sum : {X : Type 0} (written : X → RuleInstance) (f : X → ℕ) (p : Position) (xs : List X) → ((x : X) → fits (written x) p ≡ true → 1 ≤ f x)
    → length (fitting written p xs) ≤ sum_by f xs
fit_sum written f p xs counts =
    let parts = ap length (fitting_parts written p xs) ∙ length-flat_map (λ x. if_fits p (written x)) xs in
    let each = sum_by-le-sum_by (λ x. length (if_fits p (written x))) f xs one in
    omega (arith, parts, each)
  where
    one : (x : _) → length (if_fits p (written x)) ≤ f x
    one x = elim (cases_Bool (fits (written x) p)) [
      | inl good ↦ let some = counts x good in omega (arith, some, ap (λ b. length (cond b (written x ∷ []) [])) good)
      | inr bad ↦ omega (arith, ap (λ b. length (cond b (written x ∷ []) [])) bad)
    ]

-- 1 where a test passes, and else nothing
abbrev one_if : Bool → ℕ
one_if b = cond b 1 0

-- ---- squares

-- at most fifty squares pass a test by their row, which half of the rows pass
claimevens_fit : (p : Position) → is_board (board_of p) ≡ true → length (listed kinds.Claimeven p) ≤ 50
unfolding squares_of_board
claimevens_fit p h =
    let few = leb-true (sum_by (λ u. one_if (is_odd u.1)) (squares_at p)) 50
    (on_each_size (λ b. nat_le (sum_by (λ u. one_if (is_odd u.1)) (squares_of_board b)) 50) (λ len. refl) (board_of p) h) in
    let fit = fit_sum claimeven (λ u. one_if (is_odd u.1)) p (squares_at p) (λ u good. omega (arith, ap one_if (fits_shape (claimeven u) p good))) in
    omega (arith, few, fit)

verticals_fit : (p : Position) → is_board (board_of p) ≡ true → length (listed kinds.Vertical p) ≤ 50
unfolding squares_of_board
verticals_fit p h =
    let few = leb-true (sum_by (λ u. one_if (is_even u.1)) (squares_at p)) 50
    (on_each_size (λ b. nat_le (sum_by (λ u. one_if (is_even u.1)) (squares_of_board b)) 50) (λ len. refl) (board_of p) h) in
    let fit = fit_sum vertical (λ u. one_if (is_even u.1)) p (squares_at p)
    (λ u good. omega (
      arith,
      ap one_if
          (and_parts (on_board (board_of p) u && on_board (board_of p) (above u)) (is_even u.1) (fits_shape (vertical u) p good)).1,
    )) in
    omega (arith, few, fit)

-- ---- playable squares, of which each column has at most one

playable_row : (p : Position) (u : Square) → is_playable p u ≡ true → u.1 ≡ height p u.0 + 1
playable_row p u h = eqb-true u.1 (height p u.0 + 1) (and_parts (on_board (board_of p) u) _ h).1

over_playable : (p : Position) (f : ℕ → ℕ) → sum_by (λ u. f u.0) (playable_squares p) ≤ sum_by f (below (board_of p).cols)
over_playable p f =
    let filtered = sum_filter (is_playable p) (λ u. f u.0) (squares_at p) in
    let most = by_columns (board_of p) (is_playable p) f one in
    omega (arith, filtered, most)
  where
    one : (c i j : ℕ) → is_playable p (c, i) ≡ true → is_playable p (c, j) ≡ true → i ≡ j
    one c i j first second = playable_row p (c, i) first ∙ sym (playable_row p (c, j) second)

-- pairs of playable squares, by their columns
over_two : (p : Position) (f : ℕ → ℕ → ℕ)
    → sum_by (λ two. f two.0.0 two.1.0) (each_with (playable_squares p) (playable_squares p)) ≤ sum_by (λ c. sum_by (f c) (below (board_of p).cols))
    (below (board_of p).cols)
over_two p f =
    let each = sum_each (λ two. f two.0.0 two.1.0) (playable_squares p) (playable_squares p) in
    let inner = sum_by-le-sum_by (λ x. sum_by (λ y. f x.0 y.0) (playable_squares p)) (λ x. sum_by (f x.0) (below (board_of p).cols)) (playable_squares p)
    (λ x. over_playable p (f x.0)) in
    let outer = over_playable p (λ c. sum_by (f c) (below (board_of p).cols)) in
    omega (arith, each, inner, outer)

-- triples of them
over_three : (p : Position) (f : ℕ → ℕ → ℕ → ℕ)
    → sum_by (λ three. f three.0.0 three.1.0.0 three.1.1.0) (each_with (playable_squares p) (each_with (playable_squares p) (playable_squares p)))
    ≤ sum_by (λ c. sum_by (λ d. sum_by (f c d) (below (board_of p).cols)) (below (board_of p).cols)) (below (board_of p).cols)
over_three p f =
    let pairs = each_with (playable_squares p) (playable_squares p) in
    let each = sum_each (λ three. f three.0.0 three.1.0.0 three.1.1.0) (playable_squares p) pairs in
    let inner = sum_by-le-sum_by (λ x. sum_by (λ two. f x.0 two.0.0 two.1.0) pairs)
    (λ x. sum_by (λ d. sum_by (f x.0 d) (below (board_of p).cols)) (below (board_of p).cols)) (playable_squares p) (λ x. over_two p (f x.0)) in
    let outer = over_playable p (λ c. sum_by (λ d. sum_by (f c d) (below (board_of p).cols)) (below (board_of p).cols)) in
    omega (arith, each, inner, outer)

-- the pairs and the triples of columns
abbrev pairs_of_columns : Board → ℕ
pairs_of_columns b = sum_by (λ c. sum_by (λ d. one_if (nat_lt c d)) (below b.cols)) (below b.cols)

abbrev are_apart : ℕ → ℕ → ℕ → Bool
are_apart c d e = not (c == d) && not (c == e) && not (d == e)

abbrev triples_of_columns : Board → ℕ
triples_of_columns b = sum_by (λ c. sum_by (λ d. sum_by (λ e. one_if (are_apart c d e)) (below b.cols)) (below b.cols)) (below b.cols)

baseinverses_fit : (p : Position) → is_board (board_of p) ≡ true → length (listed kinds.Baseinverse p) ≤ 45
baseinverses_fit p h =
    let few = leb-true (pairs_of_columns (board_of p)) 45 (on_each_size (λ b. nat_le (pairs_of_columns b) 45) (λ len. refl) (board_of p) h) in
    let sum = over_two p (λ c d. one_if (nat_lt c d)) in
    let fit = fit_sum (λ two. baseinverse two.0 two.1) (λ two. one_if (nat_lt two.0.0 two.1.0)) p (each_with (playable_squares p) (playable_squares p))
    (λ two good. omega (arith, ap one_if (fits_shape (baseinverse two.0 two.1) p good))) in
    omega (arith, few, sum, fit)

baseclaims_fit : (p : Position) → is_board (board_of p) ≡ true → length (listed kinds.Baseclaim p) ≤ 720
baseclaims_fit p h =
    let few = leb-true (triples_of_columns (board_of p)) 720 (on_each_size (λ b. nat_le (triples_of_columns b) 720) (λ len. refl) (board_of p) h) in
    let sum = over_three p (λ c d e. one_if (are_apart c d e)) in
    let fit = fit_sum (λ three. baseclaim three.0 three.1.0 three.1.1) (λ three. one_if (are_apart three.0.0 three.1.0.0 three.1.1.0)) p
    (each_with (playable_squares p) (each_with (playable_squares p) (playable_squares p)))
    (λ three good. omega (arith, ap one_if (apart three.0 three.1.0 three.1.1 good))) in
    omega (arith, few, sum, fit)
  where
    apart : (a b e : Square) → fits (baseclaim a b e) p ≡ true → are_apart a.0 b.0 e.0 ≡ true
    apart a b e good =
        let all = and_parts (are_apart a.0 b.0 e.0 && is_even a.1 && is_odd b.1) (is_even e.1) (fits_shape (baseclaim a b e) p good) in
        let front = and_parts (are_apart a.0 b.0 e.0 && is_even a.1) (is_odd b.1) all.0 in
        (and_parts (are_apart a.0 b.0 e.0) (is_even a.1) front.0).0

-- ---- inverses, of which each column has at most one bottom

-- its row is even, and it is one of the two lowest empty ones of its column
pub bottom_row : (p : Position) (u : Square) → is_bottom p u ≡ true → (u.1 % 2 ≡ 0) × ((u.1 ≡ height p u.0 + 1) ⊎ (u.1 ≡ height p u.0 + 2))
bottom_row p u h =
    let both = and_parts (is_even u.1) (is_playable p u || is_playable p (under u)) h in (
      eqb-true (u.1 % 2) 0 both.0,
      elim (or_cases (is_playable p u) (is_playable p (under u)) both.1) [
        | inl here ↦ inl (playable_row p u here)
        | inr below ↦ inr (let row : u.1 - 1 ≡ height p u.0 + 1 = playable_row p (under u) below in omega arith)
      ],
    )

one_bottom : (p : Position) (c i j : ℕ) → is_bottom p (c, i) ≡ true → is_bottom p (c, j) ≡ true → i ≡ j
one_bottom p c i j first second = by_rows (bottom_row p (c, i) first) (bottom_row p (c, j) second)
  where
    by_rows : (i % 2 ≡ 0) × ((i ≡ height p c + 1) ⊎ (i ≡ height p c + 2)) → (j % 2 ≡ 0) × ((j ≡ height p c + 1) ⊎ (j ≡ height p c + 2)) → i ≡ j
    by_rows (even_i, inl low_i) (even_j, inl low_j) = omega arith
    by_rows (even_i, inl low_i) (even_j, inr high_j) = absurd (omega arith)
    by_rows (even_i, inr high_i) (even_j, inl low_j) = absurd (omega arith)
    by_rows (even_i, inr high_i) (even_j, inr high_j) = omega arith

-- the bottoms of an inverse that fits
pub both_bottoms : (p : Position) (x y : Square) → is_even x.1 ≡ true → is_even y.1 ≡ true → is_grounded p x y ≡ true
    → (is_bottom p x ≡ true) × (is_bottom p y ≡ true)
both_bottoms p x y even_x even_y grounded = elim (or_cases (is_playable p x && is_playable p y) (is_playable p (under x) && is_playable p (under y)) grounded) [
  | inl here ↦
      let both = and_parts (is_playable p x) (is_playable p y) here in (
        and_from _ _ even_x (or_left (is_playable p x) (is_playable p (under x)) both.0),
        and_from _ _ even_y (or_left (is_playable p y) (is_playable p (under y)) both.1),
      )
  | inr below ↦
      let both = and_parts (is_playable p (under x)) (is_playable p (under y)) below in (
        and_from _ _ even_x (or_right (is_playable p x) (is_playable p (under x)) both.0),
        and_from _ _ even_y (or_right (is_playable p y) (is_playable p (under y)) both.1),
      )
]

-- the number of a pair at two bottoms, and else nothing
abbrev at_bottoms : Position → (ℕ → ℕ → ℕ) → Square → Square → ℕ
at_bottoms p f x y = where_passes (is_bottom p) (λ x. where_passes (is_bottom p) (λ y. f x.0 y.0) y) x

-- pairs by their columns, where the sum of each column is within some multiple
over_bottoms : {X : Type 0} (p : Position) (at : X → Square) (xs : List X) (multiple : ℕ → ℕ)
    → ((f : ℕ → ℕ) → sum_by (λ x. where_passes (is_bottom p) (λ u. f u.0) (at x)) xs ≤ sum_by (λ c. multiple (f c)) (below (board_of p).cols))
    → (f : ℕ → ℕ → ℕ) → sum_by (λ two. at_bottoms p f (at two.0) (at two.1)) (each_with xs xs)
    ≤ sum_by (λ c. multiple (sum_by (λ d. multiple (f c d)) (below (board_of p).cols))) (below (board_of p).cols)
over_bottoms p at xs multiple each f =
    let pairs = sum_each (λ two. at_bottoms p f (at two.0) (at two.1)) xs xs in
    let inner = sum_by-le-sum_by (λ x. sum_by (λ y. at_bottoms p f (at x) (at y)) xs)
    (λ x. where_passes (is_bottom p) (λ u. sum_by (λ d. multiple (f u.0 d)) (below (board_of p).cols)) (at x)) xs beside in
    let outer = each (λ c. sum_by (λ d. multiple (f c d)) (below (board_of p).cols)) in
    omega (arith, pairs, inner, outer)
  where
    beside : (x : _) → sum_by (λ y. at_bottoms p f (at x) (at y)) xs ≤ where_passes (is_bottom p)
        (λ u. sum_by (λ d. multiple (f u.0 d)) (below (board_of p).cols)) (at x)
    beside x = elim (cases_Bool (is_bottom p (at x))) [
      | inl bottom ↦ rw bottom (each (f (at x).0))
      | inr other ↦ rw other (let none = sum_nothing xs in omega (arith, none))
    ]

highinverses_fit : (p : Position) → is_board (board_of p) ≡ true → length (listed kinds.Highinverse p) ≤ 45
highinverses_fit p h =
    let few = leb-true (pairs_of_columns (board_of p)) 45 (on_each_size (λ b. nat_le (pairs_of_columns b) 45) (λ len. refl) (board_of p) h) in
    let sum = over_bottoms p (λ u. u) (squares_at p) (λ n. n) (λ f. by_columns (board_of p) (is_bottom p) f (one_bottom p)) (λ c d. one_if (nat_lt c d)) in
    let fit = fit_sum (λ two. highinverse two.0 two.1) (λ two. at_bottoms p (λ c d. one_if (nat_lt c d)) two.0 two.1) p
    (each_with (squares_at p) (squares_at p)) (λ two good. counted two.0 two.1 good) in
    omega (arith, few, sum, fit)
  where
    counted : (x y : Square) → fits (highinverse x y) p ≡ true → 1 ≤ at_bottoms p (λ c d. one_if (nat_lt c d)) x y
    counted x y good =
        let all = and_parts (nat_lt x.0 y.0 && is_even x.1) (is_even y.1) (fits_shape (highinverse x y) p good) in
        let front = and_parts (nat_lt x.0 y.0) (is_even x.1) all.0 in
        let bottoms = both_bottoms p x y front.1 all.1 (fits_more (highinverse x y) p good) in
        rw (bottoms.0, bottoms.1, front.0) (omega arith)

-- the rows that can be a top
abbrev is_top_row : ℕ → Bool
is_top_row r = is_even r && nat_le 4 r

-- a Lowinverse's column has at most four tops over a bottom
tops_four : (p : Position) → is_board (board_of p) ≡ true → (bottom : Square) → is_bottom p bottom ≡ true
    → length (filter (is_low_column bottom) (squares_in_column p.rows bottom.0)) ≤ 4
tops_four p h bottom is =
    let column = squares_in_column p.rows bottom.0 in
    let few = leb-true (sum_by (λ i. one_if (is_top_row (i + 1))) (below p.rows)) 4
    (on_each_size (λ b. nat_le (sum_by (λ i. one_if (is_top_row (i + 1))) (below b.rows)) 4) (λ len. refl) (board_of p) h) in
    let ones = sum_ones (filter (is_low_column bottom) column) in
    let filtered = sum_filter (is_low_column bottom) (λ u. 1) column in
    let rows = sum_map (where_passes (is_low_column bottom) (λ u. 1)) (λ i. (bottom.0, i + 1)) (below p.rows) in
    let each = sum_by-le-sum_by (λ i. where_passes (is_low_column bottom) (λ u. 1) (bottom.0, i + 1)) (λ i. one_if (is_top_row (i + 1))) (below p.rows) row in
    omega (arith, few, ones, filtered, rows, each)
  where
    row : (i : ℕ) → where_passes (is_low_column bottom) (λ u. 1) (bottom.0, i + 1) ≤ one_if (is_top_row (i + 1))
    row i = elim (cases_Bool (is_low_column bottom (bottom.0, i + 1))) [
      | inl low ↦
          let all = and_parts ((bottom.0 == bottom.0) && is_even bottom.1 && is_even (i + 1)) (nat_le (bottom.1 + 2) (i + 1)) low in
          let front = and_parts ((bottom.0 == bottom.0) && is_even bottom.1) (is_even (i + 1)) all.0 in
          let high = leb-true (bottom.1 + 2) (i + 1) all.1 in
          let own = bottom_row p bottom is in
          let four : 4 ≤ i + 1 = grind (arith, high, own.0, own.1) in
          rw (low, and_from (is_even (i + 1)) (nat_le 4 (i + 1)) front.1 (le-leb 4 (i + 1) four)) (omega arith)
      | inr other ↦ rw other (omega arith)
    ]

-- of at most four elements
four_times : {X : Type 0} (m : ℕ) (xs : List X) → length xs ≤ 4 → sum_by (λ x. m) xs ≤ 4 * m
four_times m [] few = omega arith
four_times m (a ∷ []) few = omega arith
four_times m (a ∷ b ∷ []) few = omega arith
four_times m (a ∷ b ∷ c ∷ []) few = omega arith
four_times m (a ∷ b ∷ c ∷ d ∷ []) few = omega arith
four_times m (a ∷ b ∷ c ∷ d ∷ e ∷ rest) few = absurd (omega arith)

over_tops : (p : Position) → is_board (board_of p) ≡ true → (f : ℕ → ℕ)
    → sum_by (λ column. where_passes (is_bottom p) (λ u. f u.0) column.0) (low_columns p) ≤ sum_by (λ c. 4 * f c) (below (board_of p).cols)
over_tops p h f =
    let flat = sum_flat (λ column. where_passes (is_bottom p) (λ u. f u.0) column.0) (tops_over p) (squares_at p) in
    let each = sum_by-le-sum_by (λ bottom. sum_by (λ column. where_passes (is_bottom p) (λ u. f u.0) column.0) (tops_over p bottom))
    (where_passes (is_bottom p) (λ u. 4 * f u.0)) (squares_at p) over in
    let most = by_columns (board_of p) (is_bottom p) (λ c. 4 * f c) (one_bottom p) in
    omega (arith, flat, each, most)
  where
    over : (bottom : Square) → sum_by (λ column. where_passes (is_bottom p) (λ u. f u.0) column.0) (tops_over p bottom) ≤ where_passes (is_bottom p)
        (λ u. 4 * f u.0) bottom
    over bottom =
        let tops = filter (is_low_column bottom) (squares_in_column p.rows bottom.0) in
        let mapped = sum_map (λ (column : Square × Square). where_passes (is_bottom p) (λ u. f u.0) column.0) (λ top. (bottom, top)) tops in
        elim (cases_Bool (is_bottom p bottom)) [
          | inl is ↦
              let same = ap (λ b. sum_by (λ (top : Square). cond b (f bottom.0) 0) tops) is in
              let few = four_times (f bottom.0) tops (tops_four p h bottom is) in
              rw is (omega (arith, mapped, same, few))
          | inr other ↦
              let same = ap (λ b. sum_by (λ (top : Square). cond b (f bottom.0) 0) tops) other in
              let none = sum_nothing tops in
              rw other (omega (arith, mapped, same, none))
        ]

-- four tops for each of two columns
abbrev pairs_with_tops : Board → ℕ
pairs_with_tops b = sum_by (λ c. 4 * sum_by (λ d. 4 * one_if (nat_lt c d)) (below b.cols)) (below b.cols)

lowinverses_fit : (p : Position) → is_board (board_of p) ≡ true → length (listed kinds.Lowinverse p) ≤ 720
lowinverses_fit p h =
    let few = leb-true (pairs_with_tops (board_of p)) 720 (on_each_size (λ b. nat_le (pairs_with_tops b) 720) (λ len. refl) (board_of p) h) in
    let sum = over_bottoms p (λ (column : Square × Square). column.0) (low_columns p) (λ n. 4 * n) (over_tops p h) (λ c d. one_if (nat_lt c d)) in
    let fit = fit_sum (λ (two : (Square × Square) × (Square × Square)). lowinverse two.0.0 two.0.1 two.1.0 two.1.1)
    (λ two. at_bottoms p (λ c d. one_if (nat_lt c d)) two.0.0 two.1.0) p (each_with (low_columns p) (low_columns p))
    (λ two good. counted two.0.0 two.0.1 two.1.0 two.1.1 good) in
    omega (arith, few, sum, fit)
  where
    counted : (x x_top y y_top : Square) → fits (lowinverse x x_top y y_top) p ≡ true → 1 ≤ at_bottoms p (λ c d. one_if (nat_lt c d)) x y
    counted x x_top y y_top good =
        let all = and_parts (nat_lt x.0 y.0 && is_low_column x x_top) (is_low_column y y_top) (fits_shape (lowinverse x x_top y y_top) p good) in
        let front = and_parts (nat_lt x.0 y.0) (is_low_column x x_top) all.0 in
        let bottoms = both_bottoms p x y (even_bottom x x_top front.1) (even_bottom y y_top all.1) (fits_more (lowinverse x x_top y y_top) p good) in
        rw (bottoms.0, bottoms.1, front.0) (omega arith)
      where
        even_bottom : (bottom top : Square) → is_low_column bottom top ≡ true → is_even bottom.1 ≡ true
        even_bottom bottom top low =
            let all = and_parts ((bottom.0 == top.0) && is_even bottom.1 && is_even top.1) (nat_le (bottom.1 + 2) top.1) low in
            let front = and_parts ((bottom.0 == top.0) && is_even bottom.1) (is_even top.1) all.0 in
            (and_parts (bottom.0 == top.0) (is_even bottom.1) front.0).1

-- ---- groups

all_groups : (written : Group → RuleInstance) (p : Position) → is_board (board_of p) ≡ true → length (fitting written p (groups_of (board_of p))) ≤ MOST_GROUPS
all_groups written p h =
    let most = groups_fit (board_of p) h in
    let all = map written (groups_of (board_of p)) in
    let fewer = count_by-le-length (λ w. fits w p) all in
    omega (arith, most, fewer, length-filter (λ w. fits w p) all, length-map (groups_of (board_of p)) written)

afterevens_fit : (p : Position) → is_board (board_of p) ≡ true → length (listed kinds.Aftereven p) ≤ MOST_GROUPS
afterevens_fit p h = all_groups aftereven p h

befores_fit : (p : Position) → is_board (board_of p) ≡ true → length (listed kinds.Before p) ≤ MOST_GROUPS
befores_fit p h = all_groups before p h

-- ---- a square lies in few groups

abbrev in_group : Square → Group → ℕ
in_group u g = one_if (has_square (squares_of g) u)

-- as many as a line has squares, in each of the four directions
abbrev few_at : Length → Square → Bool
few_at len u = nat_le (sum_by (in_group u) (groups_of (widest_with len))) 20

few_everywhere : (len : Length) → list_all (few_at len) (squares_of_board widest) ≡ true
unfolding groups_of squares_of_board
few_everywhere Four = refl
few_everywhere Five = refl

-- the groups of a board are among those of the widest
groups_more : (f : Group → ℕ) (b : Board) → is_board b ≡ true → sum_by f (groups_of b) ≤ sum_by f (groups_of (widest_with b.len))
unfolding groups_of
groups_more f b h =
    let own = sum_flat f (groups_along b) ways in
    let whole = sum_flat f (groups_along (widest_with b.len)) ways in
    let each = sum_by-le-sum_by (λ way. sum_by f (groups_along b way)) (λ way. sum_by f (groups_along (widest_with b.len) way)) ways along in
    omega (arith, own, whole, each)
  where
    along : (way : Way) → sum_by f (groups_along b way) ≤ sum_by f (groups_along (widest_with b.len) way)
    along way =
        let count : Square → ℕ = λ s. f (group_on b way s) in
        let own = sum_map f (group_on b way) (filter (is_line b way) (squares_of_board b)) in
        let own_lines = sum_filter (is_line b way) count (squares_of_board b) in
        let lines = sum_by-le-sum_by (where_passes (is_line b way) count) (where_passes (is_line (widest_with b.len) way) count) (squares_of_board b) line in
        let more = board_more (where_passes (is_line (widest_with b.len) way) count) b (widest_with b.len) (board_most b h).0 (board_most b h).1 in
        let whole = sum_map f (group_on b way) (filter (is_line (widest_with b.len) way) (squares_of_board (widest_with b.len))) in
        let whole_lines = sum_filter (is_line (widest_with b.len) way) count (squares_of_board (widest_with b.len)) in
        omega (arith, own, own_lines, lines, more, whole, whole_lines)
      where
        line : (s : Square) → where_passes (is_line b way) (λ s. f (group_on b way s)) s ≤ where_passes (is_line (widest_with b.len) way)
            (λ s. f (group_on b way s)) s
        line s = elim (cases_Bool (is_line b way s)) [
          | inl is ↦ rw (is, line_widest b h way s is) (omega arith)
          | inr other ↦ rw other (omega arith)
        ]

few_groups : (b : Board) → is_board b ≡ true → (u : Square) → on_board b u ≡ true → sum_by (in_group u) (groups_of b) ≤ 20
few_groups b h u on =
    let more = groups_more (in_group u) b h in
    let few = leb-true (sum_by (in_group u) (groups_of (widest_with b.len))) 20
    (all_gives (few_at b.len) (squares_of_board widest) u (few_everywhere b.len) (Among-board widest u (on_widest b h u on))) in
    omega (arith, more, few)

-- two columns apart, and twenty groups at one of them
abbrev groups_by_columns : Board → ℕ
groups_by_columns b = sum_by (λ c. sum_by (λ d. cond (not (c == d)) 20 0) (below b.cols)) (below b.cols)

specialbefores_fit : (p : Position) → is_board (board_of p) ≡ true → length (listed kinds.Specialbefore p) ≤ 1800
specialbefores_fit p h =
    let groups = groups_of (board_of p) in
    let pairs = each_with (playable_squares p) (playable_squares p) in
    let few = leb-true (groups_by_columns (board_of p)) 1800 (on_each_size (λ b. nat_le (groups_by_columns b) 1800) (λ len. refl) (board_of p) h) in
    let by_columns = over_two p (λ c d. cond (not (c == d)) 20 0) in
    let fit = fit_sum (λ (three : Group × (Square × Square)). specialbefore three.0 three.1.0 three.1.1) (λ three. special three.0 three.1) p
    (each_with groups pairs) (λ three good. counted three.0 three.1.0 three.1.1 good) in
    let each = sum_each (λ (three : Group × (Square × Square)). special three.0 three.1) groups pairs in
    let swapped = sum_swap special groups pairs in
    let most = sum_by-le-sum_by (λ two. sum_by (λ g. special g two) groups) (λ (two : Square × Square). cond (not (two.0.0 == two.1.0)) 20 0) pairs beside in
    omega (arith, few, by_columns, fit, each, swapped, most)
  where
    special : Group → Square × Square → ℕ
    special g two = where_passes (λ (two : Square × Square). on_board (board_of p) two.1 && not (two.0.0 == two.1.0)) (λ two. in_group two.1 g) two

    beside : (two : Square × Square) → sum_by (λ g. special g two) (groups_of (board_of p)) ≤ cond (not (two.0.0 == two.1.0)) 20 0
    beside two = elim (cases_Bool (on_board (board_of p) two.1 && not (two.0.0 == two.1.0))) [
      | inl both ↦
          let parts = and_parts (on_board (board_of p) two.1) (not (two.0.0 == two.1.0)) both in
          let few = few_groups (board_of p) h two.1 parts.0 in
          rw (parts.0, parts.1) few
      | inr other ↦
          let none = sum_nothing (groups_of (board_of p)) in
          rw other (omega (arith, none))
    ]

    counted : (g : Group) (f e0 : Square) → fits (specialbefore g f e0) p ≡ true → 1 ≤ special g (f, e0)
    counted g f e0 good =
        let shape = and_parts (lies_on (board_of p) g && on_board (board_of p) f && not (has_square (squares_of g) f) && has_square (squares_of g) e0)
        (not (f.0 == e0.0)) (fits_shape (specialbefore g f e0) p good) in
        let owned = (and_parts (lies_on (board_of p) g && on_board (board_of p) f && not (has_square (squares_of g) f)) (has_square (squares_of g) e0)
        shape.0).1 in
        let playable = (and_parts (is_low_line p g && is_playable p f) (is_playable p e0) (fits_more (specialbefore g f e0) p good)).1 in
        let on = (and_parts (on_board (board_of p) e0) (e0.1 == height p e0.0 + 1) playable).0 in
        rw (on, shape.1, owned) (omega arith)

-- no board has more of a kind that fit
pub lists_fit : (kind : Kind) (p : Position) → is_board (board_of p) ≡ true → length (listed kind p) ≤ most_listed kind
lists_fit kinds.Claimeven p h = claimevens_fit p h
lists_fit kinds.Baseinverse p h = baseinverses_fit p h
lists_fit kinds.Lowinverse p h = lowinverses_fit p h
lists_fit kinds.Highinverse p h = highinverses_fit p h
lists_fit kinds.Baseclaim p h = baseclaims_fit p h
lists_fit kinds.Vertical p h = verticals_fit p h
lists_fit kinds.Aftereven p h = afterevens_fit p h
lists_fit kinds.Before p h = befores_fit p h
lists_fit kinds.Specialbefore p h = specialbefores_fit p h

-- a list with that much room takes them all
pub room_for_all : (kind : Kind) (p : Position) (taken : List RuleInstance) → is_board (board_of p) ≡ true → taken ≡ []
    → length taken + length (listed kind p) ≤ most_listed kind
room_for_all kind p taken h none = let most = lists_fit kind p h in omega (arith, most, ap length none)
