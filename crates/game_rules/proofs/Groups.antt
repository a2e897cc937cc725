-- Groups are the lines of a board, each once and in order: membership, order, how many there are, and whole groups.
use Rattle.std.proofs.Common.{◌≡◌, ◌≢◌, ◌⊎◌, ℕ, zero, suc, ◌+◌, ◌<◌, ◌≤◌, Bool, true, ◌&&◌, ◌||◌, ◌==◌, nat_le, List, [], ◌∷◌, ◌++◌, length, map, filter, refl}
use Rattle.std.proofs.Common.{sym, ap, ◌∙◌, subst, inl, inr, arith, lit<}
use Rattle.std.specs.Prelude.{⊤}
use Rattle.std.specs.List.{list_any, list_all, flat_map, range_with_len, AllPairs, slice_index_or}
use Rattle.std.proofs.lemmas.Bool.{cases_Bool, cases_eq, both_ways, and_parts, and_from, or_cases, eq-eqb, eqb-true, leb-true}
use Rattle.std.proofs.lemmas.List.Concat.{flat_map-cons}
use Rattle.std.proofs.lemmas.List.Folds.{list_any-append}
use Rattle.std.proofs.lemmas.List.Kept.{AllPairs-cons}
use Rattle.game_rules.specs.Board.{Board, Square, below, is_cols, is_rows, is_board, on_board, line_length, same_length, line_at, step_of, is_line, ways}
use Rattle.game_rules.specs.Position.{Position, board_of, has_man, has_line_at, has_line_in_column, has_line_along, has_line}
use Rattle.game_rules.specs.Squares.{same_square, has_square, squares_in_column, squares_of_board, widest_with, Precedes as SquarePrecedes}
use Rattle.game_rules.specs.Groups.{Group, squares_of, lies_on, rank, same_group, has_group, group_on, groups_along, groups_of, Precedes, groups_where}
use Rattle.game_rules.specs.Groups.{GroupsOn, IsGroupSetOf}
use Rattle.game_rules.proofs.Lists.{Among, Among-at, any_gives, any_from, any_same, any_map, all_gives, Among-append_cases, Among-filter, Among-filter_gives}
use Rattle.game_rules.proofs.Lists.{Among-map, Among-map_gives, Among-flat_map, Among-flat_map_gives, Among-range_gives, Among-below, Among-below_gives}
use Rattle.game_rules.proofs.Ends.{on_board_parts, on_board_from, some_length, each_step, from_steps, step_none, Among-ways}
use Rattle.game_rules.proofs.Squares.{agree, same_square_refl, same_square_is, has_gives, has_from, Among-board, filter_same}
use Rattle.game_rules.proofs.Moves.{same_length_refl, same_length_is}
use Rattle.game_rules.specs.declared.Length.{Length}
use Rattle.game_rules.specs.declared.Length.TheVariants.{Four, Five}
use Rattle.game_rules.specs.declared.Side.{Side}
use Rattle.game_rules.specs.declared.Way.{Way}
use Rattle.game_rules.specs.declared.Way.TheVariants.{H, V, U, D}
use Rattle.game_rules.specs.declared.TheConstants.{MOST_GROUPS}

-- ---- membership

pub anchor_on : (b : Board) (way : Way) (anchor : Square) → is_line b way anchor ≡ true → on_board b anchor ≡ true
anchor_on b way anchor h = subst (λ u. on_board b u ≡ true) (step_none way anchor)
    (each_step (on_board b) b.len way anchor h 0 (let two = some_length b.len in omega arith))

-- a group lies on a board exactly where it has the board's length and its line is one of the board's
pub lies_parts : (b : Board) (g : Group) → lies_on b g ≡ true → (g.len ≡ b.len) × (is_line b g.way g.anchor ≡ true)
lies_parts b g h = let both = and_parts (same_length g.len b.len) (is_line b g.way g.anchor) h in (same_length_is g.len b.len both.0, both.1)

pub lies_from : (b : Board) (way : Way) (anchor : Square) → is_line b way anchor ≡ true → lies_on b (group_on b way anchor) ≡ true
lies_from b way anchor h = and_from _ _ (same_length_refl b.len) h

-- a group on a board has its squares there
pub squares_on : (b : Board) (g : Group) → lies_on b g ≡ true → list_all (on_board b) (squares_of g) ≡ true
squares_on b g h = let parts = lies_parts b g h in subst (λ len. list_all (on_board b) (line_at len g.way g.anchor) ≡ true) (sym parts.0) parts.1

-- a group of the board's length is that of its anchor and direction
pub group_as : (b : Board) (g : Group) → g.len ≡ b.len → group_on b g.way g.anchor ≡ g
group_as b g same = ap (λ len. record g { len = len }) (sym same)

pub Among-groups : (b : Board) (g : Group) → lies_on b g ≡ true → Among g (groups_of b)
unfolding groups_of
Among-groups b g h =
    let parts = lies_parts b g h in
    subst (λ g. Among g (flat_map (groups_along b) ways)) (group_as b g parts.0)
    (Among-flat_map (groups_along b) ways g.way (group_on b g.way g.anchor) (Among-ways g.way)
    (Among-map (group_on b g.way) (filter (is_line b g.way) (squares_of_board b)) g.anchor
    (Among-filter (is_line b g.way) (squares_of_board b) g.anchor (Among-board b g.anchor (anchor_on b g.way g.anchor parts.1)) parts.1)))

pub Among-groups_gives : (b : Board) (g : Group) → Among g (groups_of b) → lies_on b g ≡ true
unfolding groups_of
Among-groups_gives b g among =
    let along = Among-flat_map_gives (groups_along b) ways g among in
    let anchored = Among-map_gives (group_on b along.0) (filter (is_line b along.0) (squares_of_board b)) g along.2 in
    subst (λ g. lies_on b g ≡ true) anchored.2
    (lies_from b along.0 anchored.0 (Among-filter_gives (is_line b along.0) (squares_of_board b) anchored.0 anchored.1).1)

-- a line of a board is one of each larger board with lines of the same length
pub line_wider : (b c : Board) → b.cols ≤ c.cols → b.rows ≤ c.rows → b.len ≡ c.len → (way : Way) (anchor : Square) → is_line b way anchor ≡ true
    → is_line c way anchor ≡ true
line_wider b c wide high same way anchor h = from_steps (on_board c) c.len way anchor (λ i low.
    wider (step_of way anchor i) (each_step (on_board b) b.len way anchor h i (subst (λ len. i < line_length len) (sym same) low)))
  where
    wider : (u : Square) → on_board b u ≡ true → on_board c u ≡ true
    wider (x, y) on = let parts = on_board_parts b x y on in on_board_from c x y (omega arith) parts.1 (omega arith)

-- ---- sizes one by one

-- what holds at each number of columns that a board has
pub of_cols : (P : ℕ → Type 0) → P 4 → P 5 → P 6 → P 7 → P 8 → P 9 → P 10 → (n : ℕ) → is_cols n ≡ true → P n
of_cols P p4 p5 p6 p7 p8 p9 p10 n h = at (cases_eq n 4) (cases_eq n 5) (cases_eq n 6) (cases_eq n 7) (cases_eq n 8) (cases_eq n 9)
  where
    both : (nat_le 4 n ≡ true) × (nat_le n 10 ≡ true)
    both = and_parts (nat_le 4 n) (nat_le n 10) h

    at : (n ≡ 4) ⊎ (n ≢ 4) → (n ≡ 5) ⊎ (n ≢ 5) → (n ≡ 6) ⊎ (n ≢ 6) → (n ≡ 7) ⊎ (n ≢ 7) → (n ≡ 8) ⊎ (n ≢ 8) → (n ≡ 9) ⊎ (n ≢ 9) → P n
    at (inl e) d5 d6 d7 d8 d9 = subst P (sym e) p4
    at (inr d4) (inl e) d6 d7 d8 d9 = subst P (sym e) p5
    at (inr d4) (inr d5) (inl e) d7 d8 d9 = subst P (sym e) p6
    at (inr d4) (inr d5) (inr d6) (inl e) d8 d9 = subst P (sym e) p7
    at (inr d4) (inr d5) (inr d6) (inr d7) (inl e) d9 = subst P (sym e) p8
    at (inr d4) (inr d5) (inr d6) (inr d7) (inr d8) (inl e) = subst P (sym e) p9
    at (inr d4) (inr d5) (inr d6) (inr d7) (inr d8) (inr d9) =
        let least : 4 ≤ n = leb-true 4 n both.0 in
        let most : n ≤ 10 = leb-true n 10 both.1 in
        let last : 10 ≡ n = omega arith in subst P last p10

-- what holds at each number of rows that a board has
pub of_rows : (P : ℕ → Type 0) → P 4 → P 6 → P 8 → P 10 → (n : ℕ) → is_rows n ≡ true → P n
of_rows P p4 p6 p8 p10 n h = elim (or_cases (n == 4 || n == 6 || n == 8) (n == 10) h) [
  | inr e ↦ subst P (sym (eqb-true n 10 e)) p10
  | inl less ↦ elim (or_cases (n == 4 || n == 6) (n == 8) less) [
    | inr e ↦ subst P (sym (eqb-true n 8 e)) p8
    | inl least ↦ elim (or_cases (n == 4) (n == 6) least) [
      | inl e ↦ subst P (sym (eqb-true n 4 e)) p4
      | inr e ↦ subst P (sym (eqb-true n 6 e)) p6
    ]
  ]
]

pub board_most : (b : Board) → is_board b ≡ true → (b.cols ≤ 10) × (b.rows ≤ 10)
board_most b h =
    let both = and_parts (is_cols b.cols) (is_rows b.rows) h in (
      of_cols (λ n. n ≤ 10) (omega arith) (omega arith) (omega arith) (omega arith) (omega arith) (omega arith) (omega arith) b.cols both.0,
      of_rows (λ n. n ≤ 10) (omega arith) (omega arith) (omega arith) (omega arith) b.rows both.1,
    )

-- the lines of a board are lines of the widest one
pub line_widest : (b : Board) → is_board b ≡ true → (way : Way) (anchor : Square) → is_line b way anchor ≡ true → is_line (widest_with b.len) way anchor ≡ true
line_widest b h way anchor line = let most = board_most b h in line_wider b (widest_with b.len) most.0 most.1 refl way anchor line

-- ---- at every size

-- the numbers of columns and of rows that a board has
abbrev all_cols : List ℕ
all_cols = 4 ∷ 5 ∷ 6 ∷ 7 ∷ 8 ∷ 9 ∷ 10 ∷ []

abbrev all_rows : List ℕ
all_rows = 4 ∷ 6 ∷ 8 ∷ 10 ∷ []

-- the sizes with a length and a number of columns
abbrev with_cols : Length → ℕ → List Board
with_cols len cols = map (λ rows. record { cols = cols; rows = rows; len = len }) all_rows

-- a test passes at each size with a length
abbrev pub passes_at_sizes : (Board → Bool) → Length → Bool
passes_at_sizes test len = list_all test (flat_map (with_cols len) all_cols)

cols_among : (n : ℕ) → is_cols n ≡ true → Among n all_cols
cols_among =
    of_cols (λ n. Among n all_cols)
    (inl refl) (inr (inl refl)) (inr (inr (inl refl))) (inr (inr (inr (inl refl)))) (inr (inr (inr (inr (inl refl))))) (inr (inr (inr (inr (inr (inl refl))))))
    (inr (inr (inr (inr (inr (inr (inl refl)))))))

rows_among : (n : ℕ) → is_rows n ≡ true → Among n all_rows
rows_among = of_rows (λ n. Among n all_rows) (inl refl) (inr (inl refl)) (inr (inr (inl refl))) (inr (inr (inr (inl refl))))

-- what passes at each of the sizes, at either length, passes on each board
pub on_each_size : (test : Board → Bool) → ((len : Length) → passes_at_sizes test len ≡ true) → (b : Board) → is_board b ≡ true → test b ≡ true
on_each_size test h b is =
    let both = and_parts (is_cols b.cols) (is_rows b.rows) is in
    all_gives test (flat_map (with_cols b.len) all_cols) b (h b.len)
    (Among-flat_map (with_cols b.len) all_cols b.cols b (cols_among b.cols both.0)
    (Among-map (λ rows. record { cols = b.cols; rows = rows; len = b.len }) all_rows b.rows (rows_among b.rows both.1)))

-- no board has more groups
pub groups_fit : (b : Board) → is_board b ≡ true → length (groups_of b) ≤ MOST_GROUPS
unfolding groups_of squares_of_board
groups_fit b h = leb-true (length (groups_of b)) MOST_GROUPS (on_each_size (λ b. nat_le (length (groups_of b)) MOST_GROUPS) few b h)
  where
    few : (len : Length) → passes_at_sizes (λ b. nat_le (length (groups_of b)) MOST_GROUPS) len ≡ true
    few Four = refl
    few Five = refl

-- ---- order

-- each element stands before each later one
abbrev pub Ordered : {X : Type 0} → (X → X → Type 0) → List X → Type 0
Ordered R [] = ⊤
Ordered R (x ∷ xs) = ((y : _) → Among y xs → R x y) × Ordered R xs

pub Ordered-append : {X : Type 0} (R : X → X → Type 0) (xs ys : List X) → Ordered R xs → Ordered R ys → ((x y : X) → Among x xs → Among y ys → R x y)
    → Ordered R (xs ++ ys)
Ordered-append R [] ys left right between = right
Ordered-append R (x ∷ xs) ys left right between = (
  (λ y among. elim (Among-append_cases y xs ys among) [ inl here ↦ left.0 y here | inr later ↦ between x y (inl refl) later ]),
  Ordered-append R xs ys left.1 right (λ a b here later. between a b (inr here) later),
)

pub Ordered-filter : {X : Type 0} (R : X → X → Type 0) (p : X → Bool) (xs : List X) → Ordered R xs → Ordered R (filter p xs)
Ordered-filter R p [] h = h
Ordered-filter R p (x ∷ xs) h = elim (cases_Bool (p x)) [
  | inl passes ↦ rw passes ((λ y among. h.0 y (Among-filter_gives p xs y among).0), Ordered-filter R p xs h.1)
  | inr fails ↦ rw fails (Ordered-filter R p xs h.1)
]

pub Ordered-map : {X Y : Type 0} (R : X → X → Type 0) (S : Y → Y → Type 0) (f : X → Y) (xs : List X) → ((a b : X) → R a b → S (f a) (f b)) → Ordered R xs
    → Ordered S (map f xs)
Ordered-map R S f [] keeps h = tt
Ordered-map R S f (x ∷ xs) keeps h = (
  (λ y among. let from = Among-map_gives f xs y among in subst (S (f x)) from.2 (keeps x from.0 (h.0 from.0 from.1))),
  Ordered-map R S f xs keeps h.1,
)

pub Ordered-flat_map : {X Y : Type 0} (R : X → X → Type 0) (S : Y → Y → Type 0) (f : X → List Y) (xs : List X) → ((x : X) → Ordered S (f x))
    → ((a b : X) (y z : Y) → R a b → Among y (f a) → Among z (f b) → S y z) → Ordered R xs → Ordered S (flat_map f xs)
Ordered-flat_map R S f [] each between h = tt
Ordered-flat_map R S f (x ∷ xs) each between h = rw flat_map-cons (Ordered-append S (f x) (flat_map f xs) (each x) (Ordered-flat_map R S f xs each between h.1)
    (λ y z here later. let from = Among-flat_map_gives f xs z later in between x from.0 y z (h.0 from.0 from.1) here from.2))

pub Ordered-range : (a n : ℕ) → Ordered (λ i j. i < j) (range_with_len a n)
Ordered-range a zero = tt
Ordered-range a (suc n) = ((λ j among. let within = Among-range_gives (a + 1) n j among in omega arith), Ordered-range (a + 1) n)

pub pairs_from_ordered : {X : Type 0} (R : X → X → Type 0) (xs : List X) → Ordered R xs → AllPairs R xs
pairs_from_ordered R [] h = λ i j d before within. absurd (omega arith)
pairs_from_ordered R (x ∷ xs) h = AllPairs-cons R x xs (λ k d within. h.0 (slice_index_or xs k d) (Among-at xs k d within)) (pairs_from_ordered R xs h.1)

pub squares_in_order : (b : Board) → Ordered SquarePrecedes (squares_of_board b)
unfolding squares_of_board
squares_in_order b = Ordered-flat_map (λ i j. i < j) SquarePrecedes (squares_in_column b.rows) (below b.cols)
    (λ c. Ordered-map (λ i j. i < j) SquarePrecedes (λ i. (c, i + 1)) (below b.rows) (λ i j less. inr (refl, omega arith)) (Ordered-range 0 b.rows))
    (λ c d u v less in_c in_d. inl (subst (λ n. n < v.0) (column_is c u in_c) (subst (λ n. c < n) (column_is d v in_d) less)))
    (Ordered-range 0 b.cols)
  where
    column_is : (c : ℕ) (u : Square) → Among u (squares_in_column b.rows c) → c ≡ u.0
    column_is c u among = let from = Among-map_gives (λ i. (c, i + 1)) (below b.rows) u among in ap (λ (s : Square). s.0) from.2

ranks : Ordered (λ v w. rank v < rank w) ways
ranks = (after_h, (after_v, (after_u, ((λ w among. absurd among), tt))))
  where
    after_u : (w : Way) → Among w (D ∷ []) → 2 < rank w
    after_u w (inl d) = subst (λ w. 2 < rank w) d (lit< tt)
    after_u w (inr none) = absurd none

    after_v : (w : Way) → Among w (U ∷ D ∷ []) → 1 < rank w
    after_v w (inl u) = subst (λ w. 1 < rank w) u (lit< tt)
    after_v w (inr later) = let more : 2 < rank w = after_u w later in omega arith

    after_h : (w : Way) → Among w (V ∷ U ∷ D ∷ []) → 0 < rank w
    after_h w (inl v) = subst (λ w. 0 < rank w) v (lit< tt)
    after_h w (inr later) = let more : 1 < rank w = after_v w later in omega arith

pub squares_ordered : (b : Board) → AllPairs SquarePrecedes (squares_of_board b)
squares_ordered b = pairs_from_ordered SquarePrecedes (squares_of_board b) (squares_in_order b)

pub groups_in_order : (b : Board) → Ordered Precedes (groups_of b)
unfolding groups_of
groups_in_order b = Ordered-flat_map (λ v w. rank v < rank w) Precedes (groups_along b) ways along
    (λ v w g h less in_v in_w. inl (subst (λ way. rank way < rank h.way) (way_is v g in_v) (subst (λ way. rank v < rank way) (way_is w h in_w) less))) ranks
  where
    way_is : (way : Way) (g : Group) → Among g (groups_along b way) → way ≡ g.way
    way_is way g among = let from = Among-map_gives (group_on b way) (filter (is_line b way) (squares_of_board b)) g among in ap (λ (g : Group). g.way) from.2

    along : (way : Way) → Ordered Precedes (groups_along b way)
    along way = Ordered-map SquarePrecedes Precedes (group_on b way) (filter (is_line b way) (squares_of_board b)) (λ u v less. inr (refl, less))
        (Ordered-filter SquarePrecedes (is_line b way) (squares_of_board b) (squares_in_order b))

-- each group once, in group order
pub groups_ordered : (b : Board) → AllPairs Precedes (groups_of b)
groups_ordered b = pairs_from_ordered Precedes (groups_of b) (groups_in_order b)

-- ---- whole groups

any_flat_map : {X Y : Type 0} (p : Y → Bool) (f : X → List Y) (xs : List X) → list_any p (flat_map f xs) ≡ list_any (λ x. list_any p (f x)) xs
any_flat_map p f [] = refl
any_flat_map p f (x ∷ xs) = rw flat_map-cons (list_any-append p (f x) (flat_map f xs) ∙ ap (λ b. list_any p (f x) || b) (any_flat_map p f xs))

any_filter : {X : Type 0} (p q : X → Bool) (xs : List X) → list_any p (filter q xs) ≡ list_any (λ x. q x && p x) xs
any_filter p q [] = refl
any_filter p q (x ∷ xs) = elim (cases_Bool (q x)) [
  | inl passes ↦ rw passes (ap (λ b. p x || b) (any_filter p q xs))
  | inr fails ↦ rw fails (any_filter p q xs)
]

-- a side has a line exactly where it owns all squares of some group
pub has_line_by_groups : (p : Position) (side : Side) → has_line p side ≡ list_any (λ g. list_all (has_man p side) (squares_of g)) (groups_of (board_of p))
unfolding groups_of squares_of_board
has_line_by_groups p side =
    any_same (has_line_along p side) (λ way. list_any owned (groups_along (board_of p) way)) ways (λ way _. along way)
    ∙ sym (any_flat_map owned (groups_along (board_of p)) ways)
  where
    owned : Group → Bool
    owned g = list_all (has_man p side) (squares_of g)

    in_column : (way : Way) (c : ℕ) → has_line_in_column p side way c ≡ list_any (has_line_at p side way) (squares_in_column p.rows c)
    in_column way c = sym (any_map (has_line_at p side way) (λ i. (c, i + 1)) (below p.rows))

    along : (way : Way) → has_line_along p side way ≡ list_any owned (groups_along (board_of p) way)
    along way =
        any_same (has_line_in_column p side way) (λ c. list_any (has_line_at p side way) (squares_in_column p.rows c)) (below (length p.columns))
        (λ c _. in_column way c)
        ∙ sym (any_flat_map (has_line_at p side way) (squares_in_column p.rows) (below (length p.columns)))
        ∙ sym (any_filter (λ s. owned (group_on (board_of p) way s)) (is_line (board_of p) way) (squares_of_board (board_of p)))
        ∙ sym (any_map owned (group_on (board_of p) way) (filter (is_line (board_of p) way) (squares_of_board (board_of p))))

-- ---- sets of groups

pub rank_is : (v w : Way) → rank v ≡ rank w → v ≡ w
rank_is H H e = refl
rank_is H V e = absurd (omega arith)
rank_is H U e = absurd (omega arith)
rank_is H D e = absurd (omega arith)
rank_is V H e = absurd (omega arith)
rank_is V V e = refl
rank_is V U e = absurd (omega arith)
rank_is V D e = absurd (omega arith)
rank_is U H e = absurd (omega arith)
rank_is U V e = absurd (omega arith)
rank_is U U e = refl
rank_is U D e = absurd (omega arith)
rank_is D H e = absurd (omega arith)
rank_is D V e = absurd (omega arith)
rank_is D U e = absurd (omega arith)
rank_is D D e = refl

pub same_group_refl : (g : Group) → same_group g g ≡ true
same_group_refl g = and_from _ _ (and_from _ _ (same_square_refl g.anchor) (eq-eqb (rank g.way) (rank g.way) refl)) (same_length_refl g.len)

pub same_group_is : (g h : Group) → same_group g h ≡ true → g ≡ h
same_group_is g h same =
    let parts = and_parts (same_square g.anchor h.anchor && (rank g.way == rank h.way)) (same_length g.len h.len) same in
    let both = and_parts (same_square g.anchor h.anchor) (rank g.way == rank h.way) parts.0 in
    ap (λ s. record g { anchor = s }) (same_square_is g.anchor h.anchor both.0)
    ∙ ap (λ way. record { anchor = h.anchor; way = way; len = g.len }) (rank_is g.way h.way (eqb-true (rank g.way) (rank h.way) both.1))
    ∙ ap (λ len. record h { len = len }) (same_length_is g.len h.len parts.1)

pub group_gives : (gs : List Group) (g : Group) → has_group gs g ≡ true → Among g gs
group_gives gs g h = let found = any_gives (same_group g) gs h in subst (λ h. Among h gs) (sym (same_group_is g found.0 found.2)) found.1

pub group_from : (gs : List Group) (g : Group) → Among g gs → has_group gs g ≡ true
group_from gs g among = any_from (same_group g) gs g among (same_group_refl g)

pub has_group_of : (b : Board) (g : Group) → has_group (groups_of b) g ≡ lies_on b g
has_group_of b g = agree _ _ (λ h. Among-groups_gives b g (group_gives (groups_of b) g h)) (λ h. group_from (groups_of b) g (Among-groups b g h))

-- a set by a test has a group of the board exactly where the test passes, and no other group
pub has_group_where : (b : Board) (test : Group → Bool) (g : Group) → lies_on b g ≡ true → has_group (groups_where b test) g ≡ test g
unfolding groups_where
has_group_where b test g on = agree _ _
    (λ h. (Among-filter_gives test (groups_of b) g (group_gives (groups_where b test) g h)).1)
    (λ h. group_from (groups_where b test) g (Among-filter test (groups_of b) g (Among-groups b g on) h))

pub group_where_on : (b : Board) (test : Group → Bool) (g : Group) → has_group (groups_where b test) g ≡ true → lies_on b g ≡ true
unfolding groups_where
group_where_on b test g h = Among-groups_gives b g (Among-filter_gives test (groups_of b) g (group_gives (groups_where b test) g h)).0

-- tests that agree on the groups of the board give one set
pub groups_where_same : (b : Board) (f g : Group → Bool) → ((h : Group) → lies_on b h ≡ true → f h ≡ g h) → groups_where b f ≡ groups_where b g
unfolding groups_where
groups_where_same b f g same = filter_same f g (groups_of b) (λ h among. same h (Among-groups_gives b h among))

-- a set by a test that only groups of the board pass
pub group_set_where : (b : Board) (test : Group → Bool) → ((g : Group) → test g ≡ true → lies_on b g ≡ true)
    → IsGroupSetOf b test (record { board = b; groups = groups_where b test })
group_set_where b test within = record {
  on = refl;
  in_order = refl;
  has = λ g. elim (cases_Bool (lies_on b g)) [
    | inl on ↦ has_group_where b test g on
    | inr off ↦ agree _ _ (λ h. absurd (both_ways (lies_on b g) off (group_where_on b test g h))) (λ h. absurd (both_ways (lies_on b g) off (within g h)))
  ];
}

pub group_set_same : (b : Board) (f g : Group → Bool) (set : GroupsOn) → IsGroupSetOf b f set → ((h : Group) → f h ≡ g h) → IsGroupSetOf b g set
group_set_same b f g set is same = record {
  on = is.on;
  in_order = is.in_order ∙ groups_where_same b f g (λ h on. same h);
  has = λ h. is.has h ∙ same h;
}

-- the groups of a set lie on its board
pub group_set_on : (b : Board) (test : Group → Bool) (set : GroupsOn) → IsGroupSetOf b test set → (g : Group) → test g ≡ true → lies_on b g ≡ true
group_set_on b test set is g h = group_where_on b test g (ap (λ gs. has_group gs g) (sym is.in_order) ∙ is.has g ∙ h)

-- ---- a group is determined by its squares

-- a square of a line is one of its steps
step_gives : (len : Length) (way : Way) (s u : Square) → has_square (line_at len way s) u ≡ true → (i : ℕ) × (i < line_length len) × (step_of way s i ≡ u)
step_gives len way s u h =
    let from = Among-map_gives (step_of way s) (below (line_length len)) u (has_gives (line_at len way s) u h) in
    (from.0, Among-below_gives (line_length len) from.0 from.1, from.2)

step_has : (len : Length) (way : Way) (s : Square) (i : ℕ) → i < line_length len → has_square (line_at len way s) (step_of way s i) ≡ true
step_has len way s i low = has_from (line_at len way s) (step_of way s i)
    (Among-map (step_of way s) (below (line_length len)) i (Among-below (line_length len) i low))

-- Two lines above the ground, the first two squares of the one among the other's, and the other's anchor among the
-- one's: they have one anchor and one direction.
determined_by_steps : (v w : Way) (s t : Square) (i j k : ℕ) → 1 ≤ (step_of v s 1).1 → 1 ≤ (step_of w t 1).1
    → step_of w t i ≡ s → step_of w t j ≡ step_of v s 1 → step_of v s k ≡ t → (s ≡ t) × (v ≡ w)
determined_by_steps v w (c, r) (d, q) i j k high_s high_t first second back =
    at v w (ap column first) (ap row first) (ap column second) (ap row second) (ap column back) (ap row back) high_s high_t
  where
    column : Square → ℕ
    column u = u.0

    row : Square → ℕ
    row u = u.1

    same : c ≡ d → r ≡ q → ◌≡◌ {A = Square} (c, r) (d, q)
    same a b = rw (a, b) refl

    at : (v w : Way) → (step_of w (d, q) i).0 ≡ c → (step_of w (d, q) i).1 ≡ r → (step_of w (d, q) j).0 ≡ (step_of v (c, r) 1).0
        → (step_of w (d, q) j).1 ≡ (step_of v (c, r) 1).1 → (step_of v (c, r) k).0 ≡ d → (step_of v (c, r) k).1 ≡ q
        → 1 ≤ (step_of v (c, r) 1).1 → 1 ≤ (step_of w (d, q) 1).1 → (◌≡◌ {A = Square} (c, r) (d, q)) × (v ≡ w)
    at H H a b x y e f m n = (same (omega arith) (omega arith), refl)
    at H V a b x y e f m n = absurd (omega arith)
    at H U a b x y e f m n = absurd (omega arith)
    at H D a b x y e f m n = absurd (omega arith)
    at V H a b x y e f m n = absurd (omega arith)
    at V V a b x y e f m n = (same (omega arith) (omega arith), refl)
    at V U a b x y e f m n = absurd (omega arith)
    at V D a b x y e f m n = absurd (omega arith)
    at U H a b x y e f m n = absurd (omega arith)
    at U V a b x y e f m n = absurd (omega arith)
    at U U a b x y e f m n = (same (omega arith) (omega arith), refl)
    at U D a b x y e f m n = absurd (omega arith)
    at D H a b x y e f m n = absurd (omega arith)
    at D V a b x y e f m n = absurd (omega arith)
    at D U a b x y e f m n = absurd (omega arith)
    at D D a b x y e f m n = (same (omega arith) (omega arith), refl)

-- two groups of a board with the same squares are one
pub group_determined : (b : Board) (g h : Group) → lies_on b g ≡ true → lies_on b h ≡ true
    → ((u : Square) → has_square (squares_of g) u ≡ has_square (squares_of h) u) → g ≡ h
group_determined b g h lies_g lies_h same =
    let on_g = lies_parts b g lies_g in
    let on_h = lies_parts b h lies_h in
    let first = step_gives h.len h.way h.anchor (step_of g.way g.anchor 0)
    (sym (same (step_of g.way g.anchor 0)) ∙ step_has g.len g.way g.anchor 0 (first_step g.len)) in
    let second = step_gives h.len h.way h.anchor (step_of g.way g.anchor 1)
    (sym (same (step_of g.way g.anchor 1)) ∙ step_has g.len g.way g.anchor 1 (some_length g.len)) in
    let back = step_gives g.len g.way g.anchor (step_of h.way h.anchor 0) (same (step_of h.way h.anchor 0) ∙ step_has h.len h.way h.anchor 0 (first_step h.len))
    in
    let one = determined_by_steps g.way h.way g.anchor h.anchor first.0 second.0 back.0 (above_ground g.way g.anchor on_g.1)
    (above_ground h.way h.anchor on_h.1)
    (first.2 ∙ step_none g.way g.anchor) second.2 (back.2 ∙ step_none h.way h.anchor) in
    ap (λ s. record g { anchor = s }) one.0
    ∙ ap (λ way. record { anchor = h.anchor; way = way; len = g.len }) one.1
    ∙ ap (λ len. record h { len = len }) (on_g.0 ∙ sym on_h.0)
  where
    first_step : (len : Length) → 0 < line_length len
    first_step len = let two = some_length len in omega arith

    above_ground : (way : Way) (s : Square) → is_line b way s ≡ true → 1 ≤ (step_of way s 1).1
    above_ground way s on = let next = step_of way s 1 in (on_board_parts b next.0 next.1 (each_step (on_board b) b.len way s on 1 (some_length b.len))).1
