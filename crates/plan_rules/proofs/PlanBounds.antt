-- A list whose members fit, and each two of which may stand together, has at most fifty zones and five twins on any
-- board. Each zone has two squares at least, and each Baseinverse two columns; no two zones share a square, and no two
-- Baseinverses a column.
use Rattle.std.proofs.Common.{◌≡◌, ◌≢◌, ℕ, suc, ◌+◌, ◌*◌, ◌<◌, ◌≤◌, Bool, true, ◌||◌, ◌==◌, cond, List, [], ◌∷◌, ◌++◌, length, filter, Option, Some, None}
use Rattle.std.proofs.Common.{is_some, refl, sym, ap, ◌∙◌, inl, inr, arith}
use Rattle.std.specs.List.{list_all, list_any, flat_map, sum_by}
use Rattle.std.proofs.lemmas.Bool.{cases_Bool, and_parts, or_cases, or_left, or_right, eqb-true, eq-eqb, ltb-true, false_from_ne_true}
use Rattle.std.proofs.lemmas.List.FromFn.{length-range_with_len}
use Rattle.std.proofs.lemmas.List.Sums.{sum_by-cons, sum_by-le-sum_by}
use Rattle.game_rules.specs.Board.{Board, Square, below, on_board, is_board}
use Rattle.game_rules.specs.Position.{Position, board_of}
use Rattle.game_rules.specs.Squares.{has_square, squares_of_board, widest}
use Rattle.game_rules.proofs.Ends.{on_board_parts}
use Rattle.game_rules.proofs.Lists.{Among, all_gives, Among-below}
use Rattle.game_rules.proofs.Squares.{has_gives, has_from, Among-board}
use Rattle.game_rules.proofs.Groups.{board_most}
use Rattle.plan_rules.specs.Squares.{above}
use Rattle.plan_rules.specs.Rules.{RuleInstance, claimeven, baseinverse, lowinverse, highinverse, baseclaim, zone_of, twin_of, as_list, fits, facts_of}
use Rattle.plan_rules.specs.Rules.{together}
use Rattle.plan_rules.specs.Plan.{each_two, is_plan}
use Rattle.plan_rules.specs.Zones.{owns_zone, zones_from}
use Rattle.plan_rules.specs.Refusal.{StandTogether}
use Rattle.plan_rules.proofs.Sums.{where_passes, none_passes, sum_ones, sum_swap, board_more}
use Rattle.plan_rules.proofs.Table.{Apart, left_zoneless, right_zoneless, columns_apart, left_over, right_over, apart_gives, no_column, zones_apart}
use Rattle.plan_rules.proofs.Grounds.{fits_shape, fits_on_board, low_two, high_two}
use Rattle.plan_rules.proofs.Zones.{zones_counted}

-- ---- counting

-- how many pass
abbrev passing : {X : Type 0} → (X → Bool) → List X → ℕ
passing test xs = sum_by (where_passes test (λ x. 1)) xs

passing_here : {X : Type 0} (test : X → Bool) (x : X) (xs : List X) → test x ≡ true → passing test (x ∷ xs) ≡ 1 + passing test xs
passing_here test x xs passes = sum_by-cons (where_passes test (λ x. 1)) x xs ∙ ap (λ b. cond b 1 0 + passing test xs) passes

passing_past : {X : Type 0} (test : X → Bool) (x : X) (xs : List X) → passing test xs ≤ passing test (x ∷ xs)
passing_past test x xs = omega (arith, sum_by-cons (where_passes test (λ x. 1)) x xs)

one_passing : {X : Type 0} (test : X → Bool) (xs : List X) (a : X) → Among a xs → test a ≡ true → 1 ≤ passing test xs
one_passing test [] a among passes = absurd among
one_passing test (x ∷ xs) a (inl same) passes = omega (arith, passing_here test x xs (ap test same ∙ passes))
one_passing test (x ∷ xs) a (inr later) passes = omega (arith, passing_past test x xs, one_passing test xs a later passes)

two_passing : {X : Type 0} (test : X → Bool) (xs : List X) (a b : X) → a ≢ b → Among a xs → Among b xs → test a ≡ true → test b ≡ true → 2 ≤ passing test xs
two_passing test [] a b apart in_a in_b passes_a passes_b = absurd in_a
two_passing test (x ∷ xs) a b apart (inl same_a) (inl same_b) passes_a passes_b = absurd (apart (sym same_a ∙ same_b))
two_passing test (x ∷ xs) a b apart (inl same) (inr later) passes_a passes_b =
    omega (arith, passing_here test x xs (ap test same ∙ passes_a), one_passing test xs b later passes_b)
two_passing test (x ∷ xs) a b apart (inr later) (inl same) passes_a passes_b =
    omega (arith, passing_here test x xs (ap test same ∙ passes_b), one_passing test xs a later passes_a)
two_passing test (x ∷ xs) a b apart (inr later_a) (inr later_b) passes_a passes_b =
    omega (arith, passing_past test x xs, two_passing test xs a b apart later_a later_b passes_a passes_b)

-- at most one member passes, where no two that stand together do
one_member : (test : RuleInstance → Bool) (ws : List RuleInstance) → each_two together ws ≡ true
    → ((v w : RuleInstance) → together v w ≡ true → test v ≡ true → test w ≡ true → ⊥) → passing test ws ≤ 1
one_member test [] standing apart = omega arith
one_member test (w ∷ ws) standing apart = elim (cases_Bool (test w)) [
  | inl passes ↦
      let none = none_passes test (λ w. 1) ws (λ v among. false_from_ne_true (test v) (apart w v (all_gives (together w) ws v both.0 among) passes)) in
      omega (arith, passing_here test w ws passes, none)
  | inr fails ↦ rw (sum_by-cons (where_passes test (λ x. 1)) w ws) (rw fails (let rest = one_member test ws both.1 apart in omega (arith, rest)))
]
  where
    both : (list_all (together w) ws ≡ true) × (each_two together ws ≡ true)
    both = and_parts (list_all (together w) ws) (each_two together ws) standing

-- twice as many as are counted, where each of those has two at least
twice : {X : Type 0} (counted : X → Bool) (f : X → ℕ) (xs : List X) → ((x : X) → Among x xs → counted x ≡ true → 2 ≤ f x)
    → 2 * length (filter counted xs) ≤ sum_by f xs
twice counted f [] two = omega arith
twice counted f (x ∷ xs) two = elim (cases_Bool (counted x)) [
  | inl is ↦ rw is (let rest = twice counted f xs (λ y among. two y (inr among)) in omega (arith, rest, two x (inl refl) is, sum_by-cons f x xs))
  | inr other ↦ rw other (let rest = twice counted f xs (λ y among. two y (inr among)) in omega (arith, rest, sum_by-cons f x xs))
]

-- Each member that counts owns two of some things at least, and no two that stand together own the same. So at most half
-- as many members count as there are things.
half_fit : {Y : Type 0} (counted : RuleInstance → Bool) (owns : RuleInstance → Y → Bool) (ws : List RuleInstance) (ys : List Y) → each_two together ws ≡ true
    → ((w : RuleInstance) → Among w ws → counted w ≡ true → 2 ≤ passing (owns w) ys)
    → ((v w : RuleInstance) (y : Y) → together v w ≡ true → owns v y ≡ true → owns w y ≡ true → ⊥)
    → 2 * length (filter counted ws) ≤ length ys
half_fit counted owns ws ys standing two apart =
    let pairs = twice counted (λ w. passing (owns w) ys) ws two in
    let swapped = sum_swap (λ w y. cond (owns w y) 1 0) ws ys in
    let ones = sum_by-le-sum_by (λ y. passing (λ w. owns w y) ws) (λ y. 1) ys (λ y. one_member (λ w. owns w y) ws standing (λ v w. apart v w y)) in
    omega (arith, pairs, swapped, ones, sum_ones ys)

-- ---- zones

record TwoSquares (zone : List Square) : Type 0 where
  a : Square
  b : Square
  apart : a ≢ b
  has_a : has_square zone a ≡ true
  has_b : has_square zone b ≡ true

zone_two : (w : RuleInstance) (p : Position) → fits w p ≡ true → owns_zone w ≡ true → TwoSquares (zone_of w)
zone_two (claimeven x) p fitted owns = record {
  a = x;
  b = above x;
  apart = λ same. let row : x.1 ≡ x.1 + 1 = ap (λ (s : Square). s.1) same in omega arith;
  has_a = has_from (x ∷ above x ∷ []) x (inl refl);
  has_b = has_from (x ∷ above x ∷ []) (above x) (inr (inl refl));
}
zone_two (baseinverse s t) p fitted owns = record {
  a = s;
  b = t;
  apart = λ same. let less : s.0 < t.0 = ltb-true s.0 t.0 (fits_shape (baseinverse s t) p fitted) in omega (arith, ap (λ (s : Square). s.0) same);
  has_a = has_from (s ∷ t ∷ []) s (inl refl);
  has_b = has_from (s ∷ t ∷ []) t (inr (inl refl));
}
zone_two (lowinverse x x_top y y_top) p fitted owns =
    let two = low_two x x_top y y_top p fitted in
    record { a = x; b = y; apart = λ same. two.apart (ap (λ (s : Square). s.0) same); has_a = two.has_x; has_b = two.has_y }
zone_two (highinverse x y) p fitted owns =
    let two = high_two x y p fitted in
    record { a = x; b = y; apart = λ same. two.apart (ap (λ (s : Square). s.0) same); has_a = two.has_x; has_b = two.has_y }
zone_two (baseclaim a b e) p fitted owns = record {
  a = b;
  b = above b;
  apart = λ same. let row : b.1 ≡ b.1 + 1 = ap (λ (s : Square). s.1) same in omega arith;
  has_a = has_from (a ∷ b ∷ e ∷ above b ∷ []) b (inr (inl refl));
  has_b = has_from (a ∷ b ∷ e ∷ above b ∷ []) (above b) (inr (inr (inr (inl refl))));
}
zone_two w p fitted owns = absurd (cc owns)

-- no board has more than a hundred squares
hundred_squares : (b : Board) → is_board b ≡ true → length (squares_of_board b) ≤ 100
unfolding squares_of_board
hundred_squares b h =
    let most = board_most b h in
    let more = board_more (λ u. 1) b widest most.0 most.1 in
    let all : sum_by (λ u. 1) (squares_of_board widest) ≡ 100 = refl in
    omega (arith, more, all, sum_ones (squares_of_board b))

pub fifty_members : (p : Position) (ws : List RuleInstance) → is_board (board_of p) ≡ true → StandTogether p ws → length (filter owns_zone ws) ≤ 50
fifty_members p ws h members =
    let half = half_fit owns_zone (λ w u. has_square (zone_of w) u) ws (squares_of_board (board_of p)) members.standing owned zones_apart in
    omega (arith, half, hundred_squares (board_of p) h)
  where
    owned : (w : RuleInstance) → Among w ws → owns_zone w ≡ true → 2 ≤ passing (has_square (zone_of w)) (squares_of_board (board_of p))
    owned w among owns =
        let fitted = all_gives (λ w. fits w p) ws w members.fitting among in
        let two = zone_two w p fitted owns in
        let on : (u : Square) → has_square (zone_of w) u ≡ true → Among u (squares_of_board (board_of p)) =
        λ u has. Among-board (board_of p) u (all_gives (on_board (board_of p)) (zone_of w) u (fits_on_board w p fitted) (has_gives (zone_of w) u has)) in
        two_passing (has_square (zone_of w)) (squares_of_board (board_of p)) two.a two.b two.apart (on two.a two.has_a) (on two.b two.has_b) two.has_a two.has_b

pub fifty_zones : (p : Position) (ws : List RuleInstance) (n : ℕ) → is_board (board_of p) ≡ true → StandTogether p ws → length (zones_from owns_zone n ws) ≤ 50
fifty_zones p ws n h members = omega (arith, fifty_members p ws h members, zones_counted owns_zone n ws)

-- ---- twins

-- a column of one of the twins that an instance gives
abbrev is_twin_column : RuleInstance → ℕ → Bool
is_twin_column w c = list_any (λ twin. (twin.0.0 == c) || (twin.1.0 == c)) (as_list (twin_of w))

-- a Baseinverse with a square in the column
record InverseAt (w : RuleInstance) (c : ℕ) : Type 0 where
  s : Square
  t : Square
  is_inverse : w ≡ baseinverse s t
  foot : Square
  owned : has_square (s ∷ t ∷ []) foot ≡ true
  column : foot.0 ≡ c

inverse_at : (w : RuleInstance) (c : ℕ) → is_twin_column w c ≡ true → InverseAt w c
inverse_at (baseinverse s t) c h = elim (or_cases _ _ h) [
  | inl here ↦ elim (or_cases (s.0 == c) (t.0 == c) here) [
    | inl left ↦ record { s = s; t = t; is_inverse = refl; foot = s; owned = has_from (s ∷ t ∷ []) s (inl refl); column = eqb-true s.0 c left }
    | inr right ↦ record { s = s; t = t; is_inverse = refl; foot = t; owned = has_from (s ∷ t ∷ []) t (inr (inl refl)); column = eqb-true t.0 c right }
  ]
  | inr none ↦ absurd (cc none)
]
inverse_at w c h = absurd (cc h)

-- two Baseinverses that stand together share no column
inverses_apart : (s t u v : Square) → together (baseinverse s t) (baseinverse u v) ≡ true → (a b : Square) → has_square (s ∷ t ∷ []) a ≡ true
    → has_square (u ∷ v ∷ []) b ≡ true → a.0 ≡ b.0 → ⊥
inverses_apart s t u v h a b in_a in_b = by_case (apart_gives (baseinverse s t) (baseinverse u v) h)
  where
    by_case : Apart (baseinverse s t) (baseinverse u v) → a.0 ≡ b.0 → ⊥
    by_case (left_zoneless h) same = cc h
    by_case (right_zoneless h) same = cc h
    by_case (columns_apart squares columns) same = no_column (s ∷ t ∷ []) (u ∷ v ∷ []) a b columns in_a in_b same
    by_case (left_over squares h) same = cc h
    by_case (right_over squares h) same = cc h

twins_apart : (v w : RuleInstance) (c : ℕ) → together v w ≡ true → is_twin_column v c ≡ true → is_twin_column w c ≡ true → ⊥
twins_apart v w c h left right =
    let a = inverse_at v c left in let b = inverse_at w c right in
    let both : together (baseinverse a.s a.t) (baseinverse b.s b.t) ≡ true = ap (λ v. together v (baseinverse b.s b.t)) (sym a.is_inverse)
    ∙ ap (together v) (sym b.is_inverse) ∙ h in
    inverses_apart a.s a.t b.s b.t both a.foot b.foot a.owned b.owned (a.column ∙ sym b.column)

-- a twin of an instance that fits has two columns of the board
twin_columns : (w : RuleInstance) (p : Position) → fits w p ≡ true → is_some (twin_of w) ≡ true → 2 ≤ passing (is_twin_column w) (below (board_of p).cols)
twin_columns (baseinverse s t) p fitted twin =
    let less : s.0 < t.0 = ltb-true s.0 t.0 (fits_shape (baseinverse s t) p fitted) in
    two_passing (is_twin_column (baseinverse s t)) (below (board_of p).cols) s.0 t.0 (λ same. omega arith) (column s (inl refl)) (column t (inr (inl refl)))
    (or_left _ _ (or_left _ _ (eq-eqb s.0 s.0 refl))) (or_left _ _ (or_right _ _ (eq-eqb t.0 t.0 refl)))
  where
    column : (u : Square) → Among u (s ∷ t ∷ []) → Among u.0 (below (board_of p).cols)
    column u among = Among-below (board_of p).cols u.0
        (on_board_parts (board_of p) u.0 u.1 (all_gives (on_board (board_of p)) (s ∷ t ∷ []) u (fits_on_board (baseinverse s t) p fitted) among)).0
twin_columns w p fitted twin = absurd (cc twin)

twins_counted : (ws : List RuleInstance) → length (flat_map (λ w. as_list (twin_of w)) ws) ≡ length (filter (λ w. is_some (twin_of w)) ws)
twins_counted [] = refl
twins_counted (w ∷ ws) = by_twin (twin_of w) (twins_counted ws)
  where
    by_twin : (twin : Option (Square × Square)) → length (flat_map (λ w. as_list (twin_of w)) ws) ≡ length (filter (λ w. is_some (twin_of w)) ws)
        → length (as_list twin ++ flat_map (λ w. as_list (twin_of w)) ws)
        ≡ length (cond (is_some twin) (w ∷ filter (λ w. is_some (twin_of w)) ws) (filter (λ w. is_some (twin_of w)) ws))
    by_twin None rest = rest
    by_twin (Some twin) rest = ap suc rest

pub five_twins : (p : Position) (ws : List RuleInstance) → is_board (board_of p) ≡ true → StandTogether p ws → length (facts_of p ws).twin ≤ 5
five_twins p ws h members =
    let half = half_fit (λ w. is_some (twin_of w)) is_twin_column ws (below (board_of p).cols) members.standing
    (λ w among twin. twin_columns w p (all_gives (λ w. fits w p) ws w members.fitting among) twin) twins_apart in
    omega (arith, half, (board_most (board_of p) h).0, length-range_with_len 0 (board_of p).cols, twins_counted ws)

-- ---- a plan's members

pub plan_set : (p : Position) (ws : List RuleInstance) → is_plan p ws ≡ true → StandTogether p ws
plan_set p ws plan =
    let answered = and_parts _ _ plan in let supported = and_parts _ _ answered.0 in let covered = and_parts _ _ supported.0 in
    let standing = and_parts _ _ covered.0 in let fitting = and_parts _ _ standing.0 in
    record { fitting = fitting.1; standing = standing.1 }
