-- Where inverses can begin, from the playable squares, and what a fit of an inverse comes down to there.
use Rattle.std.proofs.Common.{◌≡◌, ℕ, ◌+◌, ◌<◌, ◌≤◌, ◌%◌, zero, suc, nat_le, add-one, Bool, true, false, not, ◌&&◌, ◌||◌, ◌==◌, nat_lt, cond, List, [], ◌∷◌}
use Rattle.std.proofs.Common.{◌++◌, length, map, filter, refl, sym, ap, ◌∙◌, subst, inl, inr, arith}
use Rattle.std.specs.List.{list_all, flat_map}
use Rattle.std.proofs.lemmas.Bool.{cases_Bool, cases_eq, cases_lt, and_parts, and_from, or_cases, or_left, or_right, both_ways, eq-eqb, eqb-true, le-leb}
use Rattle.std.proofs.lemmas.Bool.{leb-true}
use Rattle.std.proofs.lemmas.List.{map-append, append-nil, append_assoc}
use Rattle.std.proofs.lemmas.List.FromFn.{filter_of_map_range_with_len_more}
use Rattle.std.proofs.lemmas.List.Concat.{flat_map-cons}
use Rattle.std.proofs.lemmas.List.Elements.{filter-append}
use Rattle.game_rules.specs.Board.{Square, below, is_board, on_board}
use Rattle.game_rules.specs.Position.{Position, board_of, height, has_room}
use Rattle.game_rules.specs.Squares.{is_playable, squares_in_column, squares_of_board}
use Rattle.game_rules.proofs.Lists.{Among, Among-below_gives, Among-map_gives, Among-flat_map_gives, Among-filter_gives, all_from, all_gives}
use Rattle.game_rules.proofs.Moves.{room_from, room_height}
use Rattle.game_rules.proofs.Playable.{column_with_one, column_with_none, on_top, column_playables}
use Rattle.game_rules.proofs.Squares.{agree, Among-board_gives}
use Rattle.game_rules.proofs.Ends.{on_board_parts, on_board_from}
use Rattle.plan_rules.specs.Squares.{above, under, is_even, column_up}
use Rattle.plan_rules.specs.Rules.{RuleInstance, lowinverse, highinverse, is_low_column, has_shape, is_shaped, is_grounded, fits}
use Rattle.plan_rules.specs.Listing.{squares_at, playable_squares, is_bottom, is_column_over, tops_over, low_columns, each_with, fitting, listed}
use Rattle.plan_rules.specs.declared.Kind.TheVariants as kinds
use Rattle.plan_rules.proofs.Fits.{even_rows, highinverse_grounded, lowinverse_grounded}
use Rattle.plan_rules.proofs.Grounds.{fits_shape, fits_on_board, fits_more}
use Rattle.plan_rules.proofs.Room.{bottom_row, both_bottoms}
use Rattle.plan_rules.proofs.Sites.{fitting_pairs_within, all_filtered}
use Rattle.plan_rules.proofs.Turns.{playable_parts}

-- the bottom over a playable square: the square itself where its row is even, else the one above it
abbrev pub bottom_over : Square → Square
bottom_over u = cond (is_even u.1) u (above u)

odd_row : (n : ℕ) → is_even n ≡ false → n % 2 ≡ 1
odd_row n odd = elim (cases_eq (n % 2) 0) [ inl none ↦ absurd (both_ways (is_even n) odd (eq-eqb (n % 2) 0 none)) | inr more ↦ omega arith ]

module _ (p : Position) (h : is_board (board_of p) ≡ true) where
  -- ---- one column

  module _ (c : ℕ) (within : c < length p.columns) where
    -- how many squares lie below the bottom
    abbrev place : ℕ
    place = cond (is_even (height p c + 1)) (height p c) (height p c + 1)

    only_bottom : (i : ℕ) → i < p.rows → is_bottom p (c, i + 1) ≡ (i == place)
    only_bottom i low = elim (cases_Bool (is_even (height p c + 1))) [
      | inl even ↦
          let row : (height p c + 1) % 2 ≡ 0 = eqb-true ((height p c + 1) % 2) 0 even in
          rw even (agree _ _
          (λ is. let at = bottom_row p (c, i + 1) is in
          eq-eqb i (height p c) (elim at.1 [ inl here ↦ omega (arith, here) | inr over ↦ absurd (omega (arith, at.0, over, row)) ]))
          (λ is.
          let same = eqb-true i (height p c) is in
          and_from (is_even (i + 1)) (is_playable p (c, i + 1) || is_playable p (under (c, i + 1))) (eq-eqb ((i + 1) % 2) 0 (omega (arith, row, same)))
          (or_left (is_playable p (c, i + 1)) (is_playable p (under (c, i + 1))) (on_top p c within i low ∙ is))))
      | inr odd ↦
          let row : (height p c + 1) % 2 ≡ 1 = odd_row (height p c + 1) odd in
          rw odd (agree _ _
          (λ is. let at = bottom_row p (c, i + 1) is in
          eq-eqb i (height p c + 1) (elim at.1 [ inl here ↦ absurd (omega (arith, at.0, here, row)) | inr over ↦ omega (arith, over) ]))
          (λ is.
          let same = eqb-true i (height p c + 1) is in
          let playable : is_playable p (c, height p c + 1) ≡ true = on_top p c within (height p c) (omega (arith, low, same))
          ∙ eq-eqb (height p c) (height p c) refl in
          let near : is_playable p (under (c, i + 1)) ≡ true = ap (λ r. is_playable p (c, r)) (omega (arith, same)) ∙ playable in
          and_from (is_even (i + 1)) (is_playable p (c, i + 1) || is_playable p (under (c, i + 1))) (eq-eqb ((i + 1) % 2) 0 (omega (arith, row, same)))
          (or_right (is_playable p (c, i + 1)) (is_playable p (under (c, i + 1))) near)))
    ]

    -- a column that isn't full has one bottom
    column_bottoms : filter (is_bottom p) (squares_in_column p.rows c) ≡ map bottom_over (filter (is_playable p) (squares_in_column p.rows c))
    column_bottoms = elim (cases_lt (height p c) p.rows) [
      | inl room ↦
          by_row room
          ∙ ap (λ b. map bottom_over (cond b ((c, height p c + 1) ∷ []) [])) (sym (room_from p c within room))
          ∙ sym (ap (map bottom_over) (column_playables p c within))
      | inr full ↦ elim (cases_Bool (has_room p c)) [
        | inl room ↦ absurd (let low = room_height p c room in omega (arith, low, full))
        | inr none ↦ column_with_none (is_bottom p) p.rows c place only_bottom (high (omega (arith, full)))
            ∙ sym (ap (map bottom_over) (column_playables p c within ∙ ap (λ b. cond b ((c, height p c + 1) ∷ []) []) none))
      ]
    ]
      where
        high : p.rows ≤ height p c → p.rows ≤ place
        high full = elim (cases_Bool (is_even (height p c + 1))) [ inl even ↦ rw even (omega (arith, full)) | inr odd ↦ rw odd (omega (arith, full)) ]

        by_row : height p c < p.rows → filter (is_bottom p) (squares_in_column p.rows c) ≡ bottom_over (c, height p c + 1) ∷ []
        by_row room = elim (cases_Bool (is_even (height p c + 1))) [
          | inl even ↦
              column_with_one (is_bottom p) p.rows c place only_bottom (rw even room)
              ∙ ap (λ b. (c, cond b (height p c) (height p c + 1) + 1) ∷ []) even
              ∙ ap (λ b. cond b (c, height p c + 1) (above (c, height p c + 1)) ∷ []) (sym even)
          | inr odd ↦
              let row = odd_row (height p c + 1) odd in
              let rows = even_rows (board_of p) h in
              column_with_one (is_bottom p) p.rows c place only_bottom (rw odd (omega (arith, row, rows, room)))
              ∙ ap (λ b. (c, cond b (height p c) (height p c + 1) + 1) ∷ []) odd
              ∙ ap (λ b. cond b (c, height p c + 1) (above (c, height p c + 1)) ∷ []) (sym odd)
        ]

  -- ---- all columns

  columns_bottoms : (cs : List ℕ) → ((c : ℕ) → Among c cs → c < length p.columns)
      → filter (is_bottom p) (flat_map (squares_in_column p.rows) cs) ≡ map bottom_over (filter (is_playable p) (flat_map (squares_in_column p.rows) cs))
  columns_bottoms [] within = refl
  columns_bottoms (c ∷ cs) within =
      let column = squares_in_column p.rows c in
      let rest = flat_map (squares_in_column p.rows) cs in
      ap (filter (is_bottom p)) (flat_map-cons (squares_in_column p.rows) c cs)
      ∙ filter-append (is_bottom p) column rest
      ∙ ap (λ us. us ++ filter (is_bottom p) rest) (column_bottoms c (within c (inl refl)))
      ∙ ap (λ us. map bottom_over (filter (is_playable p) column) ++ us) (columns_bottoms cs (λ d among. within d (inr among)))
      ∙ sym (ap (λ us. map bottom_over (filter (is_playable p) us)) (flat_map-cons (squares_in_column p.rows) c cs)
      ∙ ap (map bottom_over) (filter-append (is_playable p) column rest)
      ∙ map-append bottom_over (filter (is_playable p) column) (filter (is_playable p) rest))

  -- the bottoms are those over the playable squares
  pub all_bottoms : map bottom_over (playable_squares p) ≡ filter (is_bottom p) (squares_at p)
  unfolding squares_of_board
  all_bottoms = sym (columns_bottoms (below (board_of p).cols) (λ c among. Among-below_gives (length p.columns) c among))

-- ---- the ground of two bottoms

-- a bottom that isn't playable lies above a playable square
under_bottom : (p : Position) (u : Square) → is_bottom p u ≡ true → is_playable p (under u) ≡ not (is_playable p u)
under_bottom p u is = elim (cases_Bool (is_playable p u)) [
  | inl here ↦ elim (cases_Bool (is_playable p (under u))) [
    | inl near ↦ absurd (let top = playable_parts p u here in let low = playable_parts p (under u) near in omega (arith, top.1, low.1))
    | inr none ↦ none ∙ sym (ap not here)
  ]
  | inr above ↦ elim (or_cases (is_playable p u) (is_playable p (under u)) (and_parts (is_even u.1) (is_playable p u || is_playable p (under u)) is).1) [
    | inl here ↦ absurd (both_ways (is_playable p u) above here)
    | inr near ↦ near ∙ sym (ap not above)
  ]
]

-- two bottoms stand on ground of one kind, or one of them alone is playable
pub ground_of_bottoms : (p : Position) (x y : Square) → is_bottom p x ≡ true → is_bottom p y ≡ true
    → is_grounded p x y ≡ cond (is_playable p x) (is_playable p y) (not (is_playable p y))
ground_of_bottoms p x y first second = elim (cases_Bool (is_playable p x)) [
  | inl here ↦ rw (here, under_bottom p x first, here) (elim (cases_Bool (is_playable p y)) [ inl too ↦ rw too refl | inr other ↦ rw other refl ])
  | inr near ↦ rw (near, under_bottom p x first, near) (under_bottom p y second)
]

-- ---- Highinverses

-- its columns are ordered and stand on ground of one kind
pub highinverse_needs : (p : Position) (x y : Square) → fits (highinverse x y) p ≡ true → (nat_lt x.0 y.0 ≡ true) × (is_grounded p x y ≡ true)
highinverse_needs p x y good =
    let all = and_parts (nat_lt x.0 y.0 && is_even x.1) (is_even y.1) (fits_shape (highinverse x y) p good) in
    ((and_parts (nat_lt x.0 y.0) (is_even x.1) all.0).0, fits_more (highinverse x y) p good)

-- and there it fits where it is shaped
pub highinverse_site : (p : Position) (x y : Square) → is_grounded p x y ≡ true → fits (highinverse x y) p ≡ is_shaped (highinverse x y) (board_of p)
highinverse_site p x y grounded = agree _ _
    (λ good. and_from _ _ (fits_on_board (highinverse x y) p good) (fits_shape (highinverse x y) p good))
    (λ shaped.
    let zone = column_up x 3 ++ column_up y 3 in
    let both = and_parts (list_all (on_board (board_of p)) zone) (has_shape (highinverse x y) (board_of p)) shaped in
    let x_top = all_gives (on_board (board_of p)) zone (above (above x)) both.0 (inr (inr (inl refl))) in
    let y_top = all_gives (on_board (board_of p)) zone (above (above y)) both.0 (inr (inr (inr (inr (inr (inl refl)))))) in
    highinverse_grounded x y p both.1 ∙ and_from _ _ (and_from _ _ x_top y_top) grounded)

pub highinverse_sites : (p : Position) (us vs : List Square) → us ≡ filter (is_bottom p) (squares_at p) → vs ≡ filter (is_bottom p) (squares_at p)
    → fitting (λ (two : Square × Square). highinverse two.0 two.1) p (each_with us vs) ≡ listed kinds.Highinverse p
highinverse_sites p us vs first second =
    let bottoms = filter (is_bottom p) (squares_at p) in
    ap (λ us. fitting (λ (two : Square × Square). highinverse two.0 two.1) p (each_with us vs)) first
    ∙ ap (λ vs. fitting (λ (two : Square × Square). highinverse two.0 two.1) p (each_with bottoms vs)) second
    ∙ fitting_pairs_within (λ (two : Square × Square). highinverse two.0 two.1) p (is_bottom p) (is_bottom p) (squares_at p) (squares_at p) (λ x y good.
    let all = and_parts (nat_lt x.0 y.0 && is_even x.1) (is_even y.1) (fits_shape (highinverse x y) p good) in
    let front = and_parts (nat_lt x.0 y.0) (is_even x.1) all.0 in
    both_bottoms p x y front.1 all.1 (fits_more (highinverse x y) p good))

pub these_bottoms : (p : Position) (us : List Square) → us ≡ filter (is_bottom p) (squares_at p) → list_all (is_bottom p) us ≡ true
these_bottoms p us same = ap (list_all (is_bottom p)) same ∙ all_filtered (is_bottom p) (squares_at p)

-- ---- Lowinverses

-- over two bottoms one fits where its columns are ordered and stand on ground of one kind
pub lowinverse_site : (p : Position) (x x_top y y_top : Square) → is_column_over p (x, x_top) ≡ true → is_column_over p (y, y_top) ≡ true
    → fits (lowinverse x x_top y y_top) p ≡ (nat_lt x.0 y.0 && is_grounded p x y)
lowinverse_site p x x_top y y_top left right = agree _ _
    (λ good.
    let shape = and_parts (nat_lt x.0 y.0 && is_low_column x x_top) (is_low_column y y_top) (fits_shape (lowinverse x x_top y y_top) p good) in
    and_from _ _ (and_parts (nat_lt x.0 y.0) (is_low_column x x_top) shape.0).0 (fits_more (lowinverse x x_top y y_top) p good))
    (λ is.
    let both = and_parts (nat_lt x.0 y.0) (is_grounded p x y) is in
    let on_left = and_parts (on_board (board_of p) x_top) (is_low_column x x_top) (and_parts (is_bottom p x) _ left).1 in
    let on_right = and_parts (on_board (board_of p) y_top) (is_low_column y y_top) (and_parts (is_bottom p y) _ right).1 in
    lowinverse_grounded x x_top y y_top p (and_from _ _ (and_from _ _ both.0 on_left.1) on_right.1) ∙ and_from _ _ (and_from _ _ on_left.0 on_right.0) both.1)

-- the columns over some bottoms are those of all columns with such a bottom
columns_where : (p : Position) (test : Square → Bool) (us : List Square)
    → flat_map (tops_over p) (filter test us) ≡ filter (λ column. test column.0) (flat_map (tops_over p) us)
columns_where p test [] = refl
columns_where p test (u ∷ us) = elim (cases_Bool (test u)) [
  | inl passes ↦
      ap (λ b. flat_map (tops_over p) (cond b (u ∷ filter test us) (filter test us))) passes
      ∙ flat_map-cons (tops_over p) u (filter test us)
      ∙ ap (λ columns. tops_over p u ++ columns) (columns_where p test us)
      ∙ ap (λ columns. columns ++ filter (λ column. test column.0) (flat_map (tops_over p) us))
      (sym (all_pass (filter (is_low_column u) (squares_in_column p.rows u.0)) passes))
      ∙ sym apart
  | inr fails ↦
      ap (λ b. flat_map (tops_over p) (cond b (u ∷ filter test us) (filter test us))) fails
      ∙ columns_where p test us
      ∙ ap (λ columns. columns ++ filter (λ column. test column.0) (flat_map (tops_over p) us))
      (sym (none_pass (filter (is_low_column u) (squares_in_column p.rows u.0)) fails))
      ∙ sym apart
]
  where
    apart : filter (λ (column : Square × Square). test column.0) (flat_map (tops_over p) (u ∷ us))
        ≡ filter (λ column. test column.0) (tops_over p u) ++ filter (λ column. test column.0) (flat_map (tops_over p) us)
    apart = ap (filter (λ column. test column.0)) (flat_map-cons (tops_over p) u us)
        ∙ filter-append (λ column. test column.0) (tops_over p u) (flat_map (tops_over p) us)

    all_pass : (tops : List Square) → test u ≡ true → filter (λ (column : Square × Square). test column.0) (map (λ top. (u, top)) tops)
        ≡ map (λ top. (u, top)) tops
    all_pass [] passes = refl
    all_pass (top ∷ tops) passes = rw passes (ap (λ columns. (u, top) ∷ columns) (all_pass tops passes))

    none_pass : (tops : List Square) → test u ≡ false → filter (λ (column : Square × Square). test column.0) (map (λ top. (u, top)) tops) ≡ []
    none_pass [] fails = refl
    none_pass (top ∷ tops) fails = rw fails (none_pass tops fails)

-- the columns over the bottoms of a position
abbrev pub columns_over_bottoms : Position → List (Square × Square)
columns_over_bottoms p = flat_map (tops_over p) (filter (is_bottom p) (squares_at p))

pub lowinverse_sites : (p : Position) (lefts rights : List (Square × Square)) → lefts ≡ columns_over_bottoms p → rights ≡ columns_over_bottoms p
    → fitting (λ (two : (Square × Square) × (Square × Square)). lowinverse two.0.0 two.0.1 two.1.0 two.1.1) p (each_with lefts rights)
    ≡ listed kinds.Lowinverse p
lowinverse_sites p lefts rights first second =
    let written : (Square × Square) × (Square × Square) → RuleInstance = λ two. lowinverse two.0.0 two.0.1 two.1.0 two.1.1 in
    let narrowed = columns_where p (is_bottom p) (squares_at p) in
    ap (λ columns. fitting written p (each_with columns rights)) (first ∙ narrowed)
    ∙ ap (λ columns. fitting written p (each_with (filter (λ column. is_bottom p column.0) (low_columns p)) columns)) (second ∙ narrowed)
    ∙ fitting_pairs_within written p (λ column. is_bottom p column.0) (λ column. is_bottom p column.0) (low_columns p) (low_columns p) (λ left right good.
    let both = and_parts (nat_lt left.0.0 right.0.0 && is_low_column left.0 left.1) (is_low_column right.0 right.1) (fits_shape (written (left, right)) p good)
    in
    let first = and_parts (nat_lt left.0.0 right.0.0) (is_low_column left.0 left.1) both.0 in
    both_bottoms p left.0 right.0 (even_bottom left first.1) (even_bottom right both.1) (fits_more (written (left, right)) p good))
  where
    even_bottom : (column : Square × Square) → is_low_column column.0 column.1 ≡ true → is_even column.0.1 ≡ true
    even_bottom column low =
        let rows = (and_parts ((column.0.0 == column.1.0) && is_even column.0.1 && is_even column.1.1) _ low).0 in
        (and_parts (column.0.0 == column.1.0) (is_even column.0.1) (and_parts ((column.0.0 == column.1.0) && is_even column.0.1) (is_even column.1.1) rows).0).1

pub these_columns : (p : Position) (columns : List (Square × Square)) → columns ≡ columns_over_bottoms p → list_all (is_column_over p) columns ≡ true
these_columns p columns same = ap (list_all (is_column_over p)) same ∙ all_from (is_column_over p) (columns_over_bottoms p) (λ column among.
    let over = Among-flat_map_gives (tops_over p) (filter (is_bottom p) (squares_at p)) column among in
    let bottom = Among-filter_gives (is_bottom p) (squares_at p) over.0 over.1 in
    let top = Among-map_gives (λ top. (over.0, top)) (filter (is_low_column over.0) (squares_in_column p.rows over.0.0)) column over.2 in
    let low = Among-filter_gives (is_low_column over.0) (squares_in_column p.rows over.0.0) top.0 top.1 in
    subst (λ column. is_column_over p column ≡ true) top.2
    (and_from _ _ bottom.1 (and_from _ _ (top_on over.0 top.0 (Among-board_gives (board_of p) over.0 bottom.0) low.0) low.1)))
  where
    top_on : (bottom top : Square) → on_board (board_of p) bottom ≡ true → Among top (squares_in_column p.rows bottom.0) → on_board (board_of p) top ≡ true
    top_on bottom top on among =
        let at = Among-map_gives (λ i. (bottom.0, i + 1)) (below p.rows) top among in
        let within = Among-below_gives p.rows at.0 at.1 in
        subst (λ u. on_board (board_of p) u ≡ true) at.2
        (on_board_from (board_of p) bottom.0 (at.0 + 1) (on_board_parts (board_of p) bottom.0 bottom.1 on).0 (omega arith) (omega (arith, within)))

-- ---- the tops over a bottom, two rows up at a time

-- those of the first rows
abbrev pub tops_within : Square → ℕ → List Square
tops_within bottom rows = filter (is_low_column bottom) (squares_in_column rows bottom.0)

tops_more : (bottom : Square) (n : ℕ)
    → tops_within bottom (n + 1) ≡ tops_within bottom n ++ cond (is_low_column bottom (bottom.0, n + 1)) ((bottom.0, n + 1) ∷ []) []
tops_more bottom n = filter_of_map_range_with_len_more (is_low_column bottom) (λ i. (bottom.0, i + 1)) 0 n n (omega arith)

no_top : (bottom : Square) (n : ℕ) → (bottom.1 + 2 ≤ n + 1 → is_even (n + 1) ≡ true → ⊥) → tops_within bottom (n + 1) ≡ tops_within bottom n
no_top bottom n none = elim (cases_Bool (is_low_column bottom (bottom.0, n + 1))) [
  | inl low ↦
      let rows = and_parts ((bottom.0 == bottom.0) && is_even bottom.1 && is_even (n + 1)) (nat_le (bottom.1 + 2) (n + 1)) low in
      absurd (none (leb-true (bottom.1 + 2) (n + 1) rows.1) (and_parts ((bottom.0 == bottom.0) && is_even bottom.1) (is_even (n + 1)) rows.0).1)
  | inr other ↦ tops_more bottom n ∙ ap (λ b. tops_within bottom n ++ cond b ((bottom.0, n + 1) ∷ []) []) other ∙ append-nil (tops_within bottom n)
]

-- none up to the bottom
pub no_tops : (bottom : Square) (n : ℕ) → n ≤ bottom.1 → tops_within bottom n ≡ []
no_tops bottom zero low = refl
no_tops bottom (suc n) low = ap (tops_within bottom) (sym (add-one n)) ∙ no_top bottom n (λ high even. omega (arith, high, low))
    ∙ no_tops bottom n (omega (arith, low))

-- one more where two more rows are looked at, from an even row on
pub next_top : (bottom : Square) (n : ℕ) → bottom.1 % 2 ≡ 0 → n % 2 ≡ 0 → bottom.1 ≤ n
    → tops_within bottom (n + 2) ≡ tops_within bottom n ++ (bottom.0, n + 2) ∷ []
next_top bottom n even_bottom even_row low =
    let column = eq-eqb bottom.0 bottom.0 refl in
    let top : is_low_column bottom (bottom.0, n + 2)
    ≡ true = and_from _ _ (and_from _ _ (and_from _ _ column (eq-eqb (bottom.1 % 2) 0 even_bottom)) (eq-eqb ((n + 2) % 2) 0 (omega (arith, even_row))))
    (le-leb (bottom.1 + 2) (n + 2) (omega (arith, low))) in
    let two : n + 2 ≡ n + 1 + 1 = omega arith in
    ap (tops_within bottom) two
    ∙ tops_more bottom (n + 1)
    ∙ ap (λ r. tops_within bottom (n + 1) ++ cond (is_low_column bottom (bottom.0, r)) ((bottom.0, r) ∷ []) []) (sym two)
    ∙ ap (λ b. tops_within bottom (n + 1) ++ cond b ((bottom.0, n + 2) ∷ []) []) top
    ∙ ap (λ us. us ++ (bottom.0, n + 2) ∷ [])
    (no_top bottom n (λ high even. let row : (n + 1) % 2 ≡ 0 = eqb-true ((n + 1) % 2) 0 even in omega (arith, row, even_row)))

-- so the columns over a bottom grow by one
pub column_more : (bottom top : Square) (start now : List (Square × Square)) → bottom.1 % 2 ≡ 0 → top.1 % 2 ≡ 0 → bottom.1 ≤ top.1 → top.0 ≡ bottom.0
    → now ≡ start ++ map (λ u. (bottom, u)) (tops_within bottom top.1)
    → now ++ (bottom, (top.0, top.1 + 2)) ∷ [] ≡ start ++ map (λ u. (bottom, u)) (tops_within bottom (top.1 + 2))
column_more bottom top start now even_bottom even_top low column so_far =
    let tops = tops_within bottom top.1 in
    ap (λ columns. columns ++ (bottom, (top.0, top.1 + 2)) ∷ []) so_far
    ∙ append_assoc start (map (λ (u : Square). (bottom, u)) tops) ((bottom, (top.0, top.1 + 2)) ∷ [])
    ∙ ap (λ c. start ++ (map (λ (u : Square). (bottom, u)) tops ++ (bottom, (c, top.1 + 2)) ∷ [])) column
    ∙ ap (λ columns. start ++ columns) (sym (map-append (λ (u : Square). (bottom, u)) tops ((bottom.0, top.1 + 2) ∷ [])))
    ∙ ap (λ us. start ++ map (λ (u : Square). (bottom, u)) us) (sym (next_top bottom top.1 even_bottom even_top low))

-- and there is none before the first top
pub no_column : (bottom : Square) (start : List (Square × Square)) → start ≡ start ++ map (λ u. (bottom, u)) (tops_within bottom bottom.1)
no_column bottom start = sym (ap (λ us. start ++ map (λ (u : Square). (bottom, u)) us) (no_tops bottom bottom.1 (omega arith)) ∙ append-nil start)

-- a bottom stands on an even row of the board
pub bottom_row_on_board : (p : Position) → is_board (board_of p) ≡ true → (u : Square) → is_bottom p u ≡ true → (u.1 % 2 ≡ 0) × (u.1 ≤ p.rows)
bottom_row_on_board p h u is =
    let even = (bottom_row p u is).0 in
    let rows = even_rows (board_of p) h in (
      even,
      elim (or_cases (is_playable p u) (is_playable p (under u)) (and_parts (is_even u.1) (is_playable p u || is_playable p (under u)) is).1) [
        | inl here ↦ let parts = playable_parts p u here in omega (arith, parts.2)
        | inr near ↦ let parts = playable_parts p (under u) near in omega (arith, parts.1, parts.2, even, rows)
      ],
    )
