-- Sums over lists of squares, column by column, and over pairs.
use Rattle.std.proofs.Common.{◌≡◌, ℕ, zero, suc, ◌+◌, ◌≤◌, Bool, true, false, cond, List, [], ◌∷◌, length, map, filter, refl, sym, ap, ◌∙◌, inl, inr, arith}
use Rattle.std.specs.List.{flat_map, sum_by, range_with_len}
use Rattle.std.proofs.lemmas.Bool.{cases_Bool, false_from_ne_true}
use Rattle.std.proofs.lemmas.List.Concat.{flat_map-cons}
use Rattle.std.proofs.lemmas.List.Sums.{sum_by-append, sum_by-cons, sum_by-le-sum_by}
use Rattle.game_rules.specs.Board.{Board, Square, below}
use Rattle.game_rules.specs.Squares.{squares_of_board, squares_in_column}
use Rattle.game_rules.proofs.Lists.{Among, Among-range_gives}
use Rattle.plan_rules.specs.Listing.{each_with}

-- ---- sums over lists

-- the number at the elements that pass, and else nothing
abbrev pub where_passes : {X : Type 0} → (X → Bool) → (X → ℕ) → X → ℕ
where_passes test f x = cond (test x) (f x) 0

pub sum_map : {X Y : Type 0} (f : Y → ℕ) (g : X → Y) (xs : List X) → sum_by f (map g xs) ≡ sum_by (λ x. f (g x)) xs
sum_map f g [] = refl
sum_map f g (x ∷ xs) = omega (arith, sum_by-cons f (g x) (map g xs), sum_by-cons (λ x. f (g x)) x xs, sum_map f g xs)

pub sum_filter : {X : Type 0} (test : X → Bool) (f : X → ℕ) (xs : List X) → sum_by f (filter test xs) ≡ sum_by (where_passes test f) xs
sum_filter test f [] = refl
sum_filter test f (x ∷ xs) = elim (cases_Bool (test x)) [
  | inl passes ↦
      let more : sum_by f (x ∷ filter test xs) ≡ f x + sum_by f (filter test xs) = sum_by-cons f x (filter test xs) in
      let all : sum_by (where_passes test f) (x ∷ xs) ≡ cond (test x) (f x) 0 + sum_by (where_passes test f) xs = sum_by-cons (where_passes test f) x xs in
      rw (ap (λ b. cond b (x ∷ filter test xs) (filter test xs)) passes) (omega (arith, more, all, ap (λ b. cond b (f x) 0) passes, sum_filter test f xs))
  | inr fails ↦
      let all : sum_by (where_passes test f) (x ∷ xs) ≡ cond (test x) (f x) 0 + sum_by (where_passes test f) xs = sum_by-cons (where_passes test f) x xs in
      rw (ap (λ b. cond b (x ∷ filter test xs) (filter test xs)) fails) (omega (arith, all, ap (λ b. cond b (f x) 0) fails, sum_filter test f xs))
]

pub sum_flat : {X Y : Type 0} (f : Y → ℕ) (g : X → List Y) (xs : List X) → sum_by f (flat_map g xs) ≡ sum_by (λ x. sum_by f (g x)) xs
sum_flat f g [] = refl
sum_flat f g (x ∷ xs) =
    ap (sum_by f) (flat_map-cons g x xs)
    ∙ omega (arith, sum_by-append f (g x) (flat_map g xs), sum_by-cons (λ x. sum_by f (g x)) x xs, sum_flat f g xs)

-- over pairs: for each first element over the second ones
pub sum_each : {X Y : Type 0} (f : X × Y → ℕ) (xs : List X) (ys : List Y) → sum_by f (each_with xs ys) ≡ sum_by (λ x. sum_by (λ y. f (x, y)) ys) xs
sum_each f [] ys = refl
sum_each f (x ∷ xs) ys =
    ap (sum_by f) (flat_map-cons (λ x. map (λ y. (x, y)) ys) x xs)
    ∙ omega (
      arith,
      sum_by-append f (map (λ y. (x, y)) ys) (each_with xs ys),
      sum_map f (λ y. (x, y)) ys,
      sum_by-cons (λ x. sum_by (λ y. f (x, y)) ys) x xs,
      sum_each f xs ys,
    )

sum_both : {X : Type 0} (f g : X → ℕ) (xs : List X) → sum_by (λ x. f x + g x) xs ≡ sum_by f xs + sum_by g xs
sum_both f g [] = refl
sum_both f g (x ∷ xs) = omega (arith, sum_by-cons (λ x. f x + g x) x xs, sum_by-cons f x xs, sum_by-cons g x xs, sum_both f g xs)

pub sum_nothing : {X : Type 0} (xs : List X) → sum_by (λ x. 0) xs ≡ 0
sum_nothing [] = refl
sum_nothing (x ∷ xs) = sum_nothing xs

sum_same : {X : Type 0} (f g : X → ℕ) (xs : List X) → ((x : X) → f x ≡ g x) → sum_by f xs ≡ sum_by g xs
sum_same f g [] same = refl
sum_same f g (x ∷ xs) same = omega (arith, sum_by-cons f x xs, sum_by-cons g x xs, same x, sum_same f g xs same)

-- how many there are
pub sum_ones : {X : Type 0} (xs : List X) → sum_by (λ x. 1) xs ≡ length xs
sum_ones [] = refl
sum_ones (x ∷ xs) = omega (arith, sum_by-cons (λ x. 1) x xs, sum_ones xs)

-- the order of two sums
pub sum_swap : {X Y : Type 0} (f : X → Y → ℕ) (xs : List X) (ys : List Y) → sum_by (λ x. sum_by (f x) ys) xs ≡ sum_by (λ y. sum_by (λ x. f x y) xs) ys
sum_swap f [] ys = sym (sum_nothing ys)
sum_swap f (x ∷ xs) ys =
    sum_by-cons (λ x. sum_by (f x) ys) x xs
    ∙ ap (λ n. sum_by (f x) ys + n) (sum_swap f xs ys)
    ∙ sym (sum_both (f x) (λ y. sum_by (λ x. f x y) xs) ys)
    ∙ sum_same (λ y. f x y + sum_by (λ x. f x y) xs) (λ y. sum_by (λ x. f x y) (x ∷ xs)) ys (λ y. sym (sum_by-cons (λ x. f x y) x xs))

-- ---- over a range, and over the squares of a board

pub none_passes : {X : Type 0} (test : X → Bool) (f : X → ℕ) (xs : List X) → ((x : X) → Among x xs → test x ≡ false) → sum_by (where_passes test f) xs ≡ 0
none_passes test f [] none = refl
none_passes test f (x ∷ xs) none =
    omega (
      arith,
      sum_by-cons (where_passes test f) x xs,
      ap (λ b. cond b (f x) 0) (none x (inl refl)),
      none_passes test f xs (λ y among. none y (inr among)),
    )

-- at most one number of a range passes
one_passes : (test : ℕ → Bool) (m a n : ℕ) → ((i j : ℕ) → test i ≡ true → test j ≡ true → i ≡ j) → sum_by (where_passes test (λ i. m)) (range_with_len a n) ≤ m
one_passes test m a zero one = omega arith
one_passes test m a (suc n) one = elim (cases_Bool (test a)) [
  | inl passes ↦
      let rest = none_passes test (λ i. m) (range_with_len (a + 1) n)
      (λ i among. false_from_ne_true (test i) (λ too. later i (Among-range_gives (a + 1) n i among).0 (one a i passes too))) in
      omega (arith, rest, sum_by-cons (where_passes test (λ i. m)) a (range_with_len (a + 1) n), ap (λ b. cond b m 0) passes)
  | inr fails ↦ omega (
    arith,
    one_passes test m (a + 1) n one,
    sum_by-cons (where_passes test (λ i. m)) a (range_with_len (a + 1) n),
    ap (λ b. cond b m 0) fails,
  )
]
  where
    later : (i : ℕ) → a + 1 ≤ i → a ≡ i → ⊥
    later i high same = omega arith

-- where at most one square of a column passes, a sum over squares by their column is within that over the columns
pub by_columns : (board : Board) (test : Square → Bool) (f : ℕ → ℕ) → ((c i j : ℕ) → test (c, i) ≡ true → test (c, j) ≡ true → i ≡ j)
    → sum_by (where_passes test (λ u. f u.0)) (squares_of_board board) ≤ sum_by f (below board.cols)
unfolding squares_of_board
by_columns board test f one =
    let flat = sum_flat (where_passes test (λ u. f u.0)) (squares_in_column board.rows) (below board.cols) in
    let each = sum_by-le-sum_by (λ c. sum_by (where_passes test (λ u. f u.0)) (squares_in_column board.rows c)) f (below board.cols) column in
    omega (arith, flat, each)
  where
    column : (c : ℕ) → sum_by (where_passes test (λ u. f u.0)) (squares_in_column board.rows c) ≤ f c
    column c =
        let as_rows = sum_map (where_passes test (λ u. f u.0)) (λ i. (c, i + 1)) (below board.rows) in
        let most = one_passes (λ i. test (c, i + 1)) (f c) 0 board.rows (λ i j first second. let same : i + 1 ≡ j + 1 = one c (i + 1) (j + 1) first second in
        omega arith) in
        omega (arith, as_rows, most)

-- a longer range has the greater sum, and so has a wider and higher board
range_more : (f : ℕ → ℕ) (a m n : ℕ) → m ≤ n → sum_by f (range_with_len a m) ≤ sum_by f (range_with_len a n)
range_more f a zero n less = omega arith
range_more f a (suc m) zero less = absurd (omega arith)
range_more f a (suc m) (suc n) less =
    let rest = range_more f (a + 1) m n (omega arith) in
    omega (arith, rest, sum_by-cons f a (range_with_len (a + 1) m), sum_by-cons f a (range_with_len (a + 1) n))

pub board_more : (f : Square → ℕ) (b wider : Board) → b.cols ≤ wider.cols → b.rows ≤ wider.rows
    → sum_by f (squares_of_board b) ≤ sum_by f (squares_of_board wider)
unfolding squares_of_board
board_more f b wider cols rows =
    let own = sum_flat f (squares_in_column b.rows) (below b.cols) in
    let whole = sum_flat f (squares_in_column wider.rows) (below wider.cols) in
    let higher = sum_by-le-sum_by (λ c. sum_by f (squares_in_column b.rows c)) (λ c. sum_by f (squares_in_column wider.rows c)) (below b.cols) column in
    let more = range_more (λ c. sum_by f (squares_in_column wider.rows c)) 0 b.cols wider.cols cols in
    omega (arith, own, whole, higher, more)
  where
    column : (c : ℕ) → sum_by f (squares_in_column b.rows c) ≤ sum_by f (squares_in_column wider.rows c)
    column c =
        let own = sum_map f (λ i. (c, i + 1)) (below b.rows) in
        let whole = sum_map f (λ i. (c, i + 1)) (below wider.rows) in
        let more = range_more (λ i. f (c, i + 1)) 0 b.rows wider.rows rows in
        omega (arith, own, whole, more)
