-- Sets of squares: which squares a set by a test has, when two are the same, and the squares of a board.
use Rattle.std.proofs.Common.{◌≡◌, ◌≢◌, ◌⊎◌, ◌↔◌, ℕ, zero, suc, ◌+◌, ◌<◌, ◌≤◌, Bool, true, false, ◌==◌, List, [], ◌∷◌, filter, length, Option, Some, None}
use Rattle.std.proofs.Common.{is_none, refl, sym, ap, ◌∙◌, subst, inl, inr, arith, add-one}
use Rattle.std.specs.List.{list_any, list_all}
use Rattle.std.proofs.lemmas.Bool.{cases_Bool, cases_lt, both_ways, and_parts, and_from, eq-eqb, eqb-true}
use Rattle.std.proofs.lemmas.List.{get_or_past}
use Rattle.game_rules.specs.Board.{Board, Square, below, on_board}
use Rattle.game_rules.specs.Position.{Position, board_of, men_in, height, man_in, man_at, is_man, has_man, IsStacked}
use Rattle.game_rules.specs.declared.Side.{Side}
use Rattle.game_rules.specs.Squares.{is_empty, is_playable, same_square, has_square, squares_in_column, squares_of_board, widest, squares_where, IsSetOf}
use Rattle.game_rules.proofs.Lists.{Among, any_gives, any_from, any_agree, all_gives, all_from, Among-filter, Among-filter_gives, Among-map, Among-map_gives}
use Rattle.game_rules.proofs.Lists.{Among-flat_map, Among-flat_map_gives, Among-below, Among-below_gives}
use Rattle.game_rules.proofs.Ends.{on_board_parts, on_board_from}
use Rattle.game_rules.proofs.Moves.{man_past, man_within, was_empty}

-- two tests of which each passes with the other
pub agree : (a b : Bool) → (a ≡ true → b ≡ true) → (b ≡ true → a ≡ true) → a ≡ b
agree true b to from = sym (to refl)
agree false b to from = elim (cases_Bool b) [ inl yes_b ↦ from yes_b ∙ sym yes_b | inr no_b ↦ sym no_b ]

pub same_square_refl : (u : Square) → same_square u u ≡ true
same_square_refl (c, r) = and_from _ _ (eq-eqb c c refl) (eq-eqb r r refl)

pub same_square_is : (u v : Square) → same_square u v ≡ true → u ≡ v
same_square_is (a, b) (c, d) h = let both = and_parts (a == c) (b == d) h in rw (eqb-true a c both.0, eqb-true b d both.1) refl

pub has_gives : (us : List Square) (u : Square) → has_square us u ≡ true → Among u us
has_gives us u h = let found = any_gives (same_square u) us h in subst (λ v. Among v us) (sym (same_square_is u found.0 found.2)) found.1

pub has_from : (us : List Square) (u : Square) → Among u us → has_square us u ≡ true
has_from us u among = any_from (same_square u) us u among (same_square_refl u)

-- ---- the squares of a board

pub Among-board : (b : Board) (u : Square) → on_board b u ≡ true → Among u (squares_of_board b)
unfolding squares_of_board
Among-board b (c, zero) h = absurd (let parts = on_board_parts b c 0 h in omega arith)
Among-board b (c, suc i) h =
    let parts = on_board_parts b c (suc i) h in
    Among-flat_map (squares_in_column b.rows) (below b.cols) c (c, suc i) (Among-below b.cols c parts.0)
    (subst (λ n. Among (c, n) (squares_in_column b.rows c)) (add-one i) (Among-map (λ i. (c, i + 1)) (below b.rows) i (Among-below b.rows i (omega arith))))

pub Among-board_gives : (b : Board) (u : Square) → Among u (squares_of_board b) → on_board b u ≡ true
unfolding squares_of_board
Among-board_gives b u among =
    let column = Among-flat_map_gives (squares_in_column b.rows) (below b.cols) u among in
    let row = Among-map_gives (λ i. (column.0, i + 1)) (below b.rows) u column.2 in
    let high : row.0 < b.rows = Among-below_gives b.rows row.0 row.1 in
    subst (λ v. on_board b v ≡ true) row.2 (on_board_from b column.0 (row.0 + 1) (Among-below_gives b.cols column.0 column.1) (omega arith) (omega arith))

-- ---- sets by a test

pub Among-where : (test : Square → Bool) (u : Square) → on_board widest u ≡ true → test u ≡ true → Among u (squares_where test)
unfolding squares_where
Among-where test u on h = Among-filter test (squares_of_board widest) u (Among-board widest u on) h

pub Among-where_gives : (test : Square → Bool) (u : Square) → Among u (squares_where test) → (on_board widest u ≡ true) × (test u ≡ true)
unfolding squares_where
Among-where_gives test u among = let both = Among-filter_gives test (squares_of_board widest) u among in (Among-board_gives widest u both.0, both.1)

-- a set by a test has a square of the widest board exactly where the test passes, and no other square
pub has_where : (test : Square → Bool) (u : Square) → on_board widest u ≡ true → has_square (squares_where test) u ≡ test u
has_where test u on = agree _ _ (λ h. (Among-where_gives test u (has_gives (squares_where test) u h)).1)
    (λ h. has_from (squares_where test) u (Among-where test u on h))

pub where_on : (test : Square → Bool) (u : Square) → has_square (squares_where test) u ≡ true → on_board widest u ≡ true
where_on test u h = (Among-where_gives test u (has_gives (squares_where test) u h)).0

pub filter_same : {X : Type 0} (f g : X → Bool) (xs : List X) → ((x : X) → Among x xs → f x ≡ g x) → filter f xs ≡ filter g xs
filter_same f g [] same = refl
filter_same f g (x ∷ xs) same = elim (cases_Bool (g x)) [
  | inl passes ↦ rw (same x (inl refl) ∙ passes, passes) (ap (λ ys. x ∷ ys) (filter_same f g xs (λ y among. same y (inr among))))
  | inr fails ↦ rw (same x (inl refl) ∙ fails, fails) (filter_same f g xs (λ y among. same y (inr among)))
]

-- tests that agree on the widest board give one set
pub where_same : (f g : Square → Bool) → ((u : Square) → on_board widest u ≡ true → f u ≡ g u) → squares_where f ≡ squares_where g
unfolding squares_where
where_same f g same = filter_same f g (squares_of_board widest) (λ u among. same u (Among-board_gives widest u among))

-- a set by a test that no square beyond the widest board passes
pub set_where : (test : Square → Bool) → ((u : Square) → test u ≡ true → on_board widest u ≡ true) → IsSetOf test (squares_where test)
set_where test within = record {
  in_order = refl;
  has = λ u. elim (cases_Bool (on_board widest u)) [
    | inl on ↦ has_where test u on
    | inr off ↦ agree _ _ (λ h. absurd (both_ways (on_board widest u) off (where_on test u h))) (λ h. absurd (both_ways (on_board widest u) off (within u h)))
  ];
}

pub set_same : (f g : Square → Bool) (us : List Square) → IsSetOf f us → ((u : Square) → f u ≡ g u) → IsSetOf g us
set_same f g us set same = record {
  in_order = set.in_order ∙ where_same f g (λ u on. same u);
  has = λ u. set.has u ∙ same u;
}

-- the squares of a set are those of the widest board
pub set_on : (f : Square → Bool) (us : List Square) → IsSetOf f us → (u : Square) → f u ≡ true → on_board widest u ≡ true
set_on f us set u h = where_on f u (ap (λ vs. has_square vs u) (sym set.in_order) ∙ set.has u ∙ h)

-- sets with the same squares are one
pub one_set : (f g : Square → Bool) (us vs : List Square) → IsSetOf f us → IsSetOf g vs → ((u : Square) → f u ≡ g u) → us ≡ vs
one_set f g us vs left right same = left.in_order ∙ where_same f g (λ u on. same u) ∙ sym right.in_order

-- ---- what is asked of all or some squares of a set

pub all_in_set : (f p : Square → Bool) (us : List Square) → ((u : Square) → has_square us u ≡ f u)
    → (list_all p us ≡ true) ↔ ((u : Square) → f u ≡ true → p u ≡ true)
all_in_set f p us has =
    ((λ h u in_set. all_gives p us u h (has_gives us u (has u ∙ in_set))), (λ each. all_from p us (λ u among. each u (sym (has u) ∙ has_from us u among))))

-- whether some square passes depends on the squares alone, and not on their order
pub any_in_same : (p : Square → Bool) (us vs : List Square) → ((u : Square) → has_square us u ≡ has_square vs u) → list_any p us ≡ list_any p vs
any_in_same p us vs same = any_agree p p us vs
    (λ u among h. any_from p vs u (has_gives vs u (sym (same u) ∙ has_from us u among)) h)
    (λ u among h. any_from p us u (has_gives us u (same u ∙ has_from vs u among)) h)

pub has_on_board : (b : Board) (u : Square) → has_square (squares_of_board b) u ≡ on_board b u
has_on_board b u = agree _ _ (λ h. Among-board_gives b u (has_gives (squares_of_board b) u h)) (λ on. has_from (squares_of_board b) u (Among-board b u on))

-- ---- the squares of a position

-- where no column is higher than the board, men stand on the board
pub man_on_board : (p : Position) (side : Side) (u : Square) → IsStacked p → has_man p side u ≡ true → on_board (board_of p) u ≡ true
man_on_board p side (c, r) stacked h = elim (cases_lt c (length p.columns)) [
  | inr past ↦ absurd (nobody (get_or_past p.columns c [] past) r h)
  | inl within ↦ at r within (stacked c [] within) h
]
  where
    nobody : men_in p c ≡ [] → (r : ℕ) → has_man p side (c, r) ≡ true → ⊥
    nobody none zero h = cc
    nobody none (suc i) h = let gone : is_man side (man_in [] (suc i)) ≡ true = ap (λ men. is_man side (man_in men (suc i))) (sym none) ∙ h in cc

    at : (r : ℕ) → c < length p.columns → height p c ≤ p.rows → has_man p side (c, r) ≡ true → on_board (board_of p) (c, r) ≡ true
    at zero within high h = absurd (cc h)
    at (suc i) within high h = elim (cases_lt (height p c) (suc i)) [
      | inl above ↦ absurd (let gone : is_man side None ≡ true = ap (is_man side) (sym (man_past (men_in p c) (suc i) above)) ∙ h in cc)
      | inr under ↦ on_board_from (board_of p) c (suc i) within (omega arith) (omega arith)
    ]

-- a square is playable exactly where it is empty and every square below it is filled
pub playable_is : (p : Position) (u : Square) → (is_playable p u ≡ true)
    ↔ ((is_empty p u ≡ true) × ((row : ℕ) → 1 ≤ row → row < u.1 → man_at p (u.0, row) ≢ None))
playable_is p (c, r) = (to, from)
  where
    to : is_playable p (c, r) ≡ true → (is_empty p (c, r) ≡ true) × ((row : ℕ) → 1 ≤ row → row < r → man_at p (c, row) ≢ None)
    to h =
        let both = and_parts (on_board (board_of p) (c, r)) (r == height p c + 1) h in
        let top : r ≡ height p c + 1 = eqb-true r (height p c + 1) both.1 in (
          and_from _ _ both.0 (ap is_none (man_past (men_in p c) r (omega arith))),
          (λ row low high none. let some = man_within (men_in p c) row low (omega arith) in absurd (cc (some.1, none))),
        )

    none_is : (m : Option Side) → is_none m ≡ true → m ≡ None
    none_is None h = refl
    none_is (Some m) h = cc

    from : (is_empty p (c, r) ≡ true) × ((row : ℕ) → 1 ≤ row → row < r → man_at p (c, row) ≢ None) → is_playable p (c, r) ≡ true
    from h =
        let both = and_parts (on_board (board_of p) (c, r)) (is_none (man_at p (c, r))) h.0 in
        let parts = on_board_parts (board_of p) c r both.0 in
        and_from _ _ both.0 (eq-eqb r (height p c + 1) (top parts.1 (none_is (man_at p (c, r)) both.1) (cases_lt (height p c) r) (cases_lt (height p c + 1) r)))
      where
        top : 1 ≤ r → man_at p (c, r) ≡ None → (height p c < r) ⊎ (r ≤ height p c) → (height p c + 1 < r) ⊎ (r ≤ height p c + 1) → r ≡ height p c + 1
        top low none (inr under) second = let some = man_within (men_in p c) r low under in absurd (cc (some.1, none))
        top low none (inl above) (inl gap) = absurd (h.1 (height p c + 1) (omega arith) gap (was_empty p c))
        top low none (inl above) (inr near) = omega arith
