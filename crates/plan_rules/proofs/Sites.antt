-- A list made from fewer sites is whole where each site of an instance that fits is among them.
use Rattle.std.proofs.Common.{◌≡◌, ℕ, ◌%◌, Bool, true, false, not, ◌==◌, ◌&&◌, nat_le, cond, List, [], ◌∷◌, ◌++◌, map, filter, refl, sym, ap, ◌∙◌, inl, inr}
use Rattle.std.proofs.Common.{arith}
use Rattle.std.specs.List.{list_all}
use Rattle.std.proofs.lemmas.Bool.{cases_Bool, cases_eq, both_ways, and_parts, and_from, eq-eqb, eqb-true, ne_eqb, le-leb}
use Rattle.std.proofs.lemmas.List.Elements.{filter-append}
use Rattle.game_rules.specs.Board.{Square, on_board, is_board}
use Rattle.game_rules.specs.Position.{Position, board_of}
use Rattle.game_rules.specs.Squares.{has_square, is_empty, is_playable, squares_of_board, squares_where, widest, IsSetOf}
use Rattle.game_rules.proofs.Narrowed.{filter_within, filter_both, board_squares, on_widest}
use Rattle.game_rules.proofs.Ends.{on_board_parts}
use Rattle.game_rules.proofs.Lists.{Among-filter, Among-filter_gives, all_gives, all_from}
use Rattle.game_rules.proofs.Squares.{agree, has_gives, has_from, has_on_board, filter_same, set_same}
use Rattle.plan_rules.specs.Squares.{above, is_even, is_odd}
use Rattle.plan_rules.specs.Rules.{RuleInstance, claimeven, baseinverse, baseclaim, vertical, zone_of, has_shape, is_shaped, fits_besides, fits}
use Rattle.plan_rules.proofs.Grounds.{fits_shape, fits_on_board, fits_empty, fits_more}
use Rattle.plan_rules.proofs.Fits.{fits_where, empty_over}
use Rattle.plan_rules.proofs.Turns.{playable_empty}
use Rattle.plan_rules.specs.Listing.{squares_at, playable_squares, each_with, fitting, listed}
use Rattle.plan_rules.specs.declared.Kind.TheVariants as kinds

-- of pairs, those with a first and a second element that pass
abbrev both_pass : {X Y : Type 0} → (X → Bool) → (Y → Bool) → X × Y → Bool
both_pass g h two = g two.0 && h two.1

beside_passes : {X Y : Type 0} (g : X → Bool) (h : Y → Bool) (x : X) (ys : List Y) → g x ≡ true
    → filter (both_pass g h) (map (λ y. (x, y)) ys) ≡ map (λ y. (x, y)) (filter h ys)
beside_passes g h x [] passes = refl
beside_passes g h x (y ∷ ys) passes = elim (cases_Bool (h y)) [
  | inl good ↦ rw (passes, good) (ap (λ twos. (x, y) ∷ twos) (beside_passes g h x ys passes))
  | inr bad ↦ rw (passes, bad) (beside_passes g h x ys passes)
]

beside_fails : {X Y : Type 0} (g : X → Bool) (h : Y → Bool) (x : X) (ys : List Y) → g x ≡ false → filter (both_pass g h) (map (λ y. (x, y)) ys) ≡ []
beside_fails g h x [] fails = refl
beside_fails g h x (y ∷ ys) fails = rw fails (beside_fails g h x ys fails)

filter_pairs : {X Y : Type 0} (g : X → Bool) (h : Y → Bool) (xs : List X) (ys : List Y)
    → each_with (filter g xs) (filter h ys) ≡ filter (both_pass g h) (each_with xs ys)
filter_pairs g h [] ys = refl
filter_pairs g h (x ∷ xs) ys =
    let apart = filter-append (both_pass g h) (map (λ y. (x, y)) ys) (each_with xs ys) in
    elim (cases_Bool (g x)) [
      | inl passes ↦
          ap (λ b. each_with (cond b (x ∷ filter g xs) (filter g xs)) (filter h ys)) passes
          ∙ ap (λ twos. map (λ y. (x, y)) (filter h ys) ++ twos) (filter_pairs g h xs ys)
          ∙ ap (λ twos. twos ++ filter (both_pass g h) (each_with xs ys)) (sym (beside_passes g h x ys passes))
          ∙ sym apart
      | inr fails ↦
          ap (λ b. each_with (cond b (x ∷ filter g xs) (filter g xs)) (filter h ys)) fails
          ∙ filter_pairs g h xs ys
          ∙ ap (λ twos. twos ++ filter (both_pass g h) (each_with xs ys)) (sym (beside_fails g h x ys fails))
          ∙ sym apart
    ]

-- ---- what fits

fitting_map : {X : Type 0} (written : X → RuleInstance) (p : Position) (xs : List X) → fitting written p xs ≡ map written (filter (λ x. fits (written x) p) xs)
fitting_map written p [] = refl
fitting_map written p (x ∷ xs) = elim (cases_Bool (fits (written x) p)) [
  | inl good ↦ rw good (ap (λ ws. written x ∷ ws) (fitting_map written p xs))
  | inr bad ↦ rw bad (fitting_map written p xs)
]

pub fitting_within : {X : Type 0} (written : X → RuleInstance) (p : Position) (test : X → Bool) (xs : List X)
    → ((x : X) → fits (written x) p ≡ true → test x ≡ true) → fitting written p (filter test xs) ≡ fitting written p xs
fitting_within written p test xs within =
    fitting_map written p (filter test xs) ∙ ap (map written) (filter_within (λ x. fits (written x) p) test xs within) ∙ sym (fitting_map written p xs)

pub fitting_pairs_within : {X Y : Type 0} (written : X × Y → RuleInstance) (p : Position) (g : X → Bool) (h : Y → Bool) (xs : List X) (ys : List Y)
    → ((x : X) (y : Y) → fits (written (x, y)) p ≡ true → (g x ≡ true) × (h y ≡ true))
    → fitting written p (each_with (filter g xs) (filter h ys)) ≡ fitting written p (each_with xs ys)
fitting_pairs_within written p g h xs ys within =
    ap (fitting written p) (filter_pairs g h xs ys)
    ∙ fitting_within written p (both_pass g h) (each_with xs ys) (λ two good. let both = within two.0 two.1 good in and_from (g two.0) (h two.1) both.0 both.1)

-- ---- squares

-- a set of squares that has each site is enough
pub fitting_where : (written : Square → RuleInstance) (p : Position) (test : Square → Bool) → is_board (board_of p) ≡ true
    → ((u : Square) → fits (written u) p ≡ true → (test u ≡ true) × (on_board (board_of p) u ≡ true))
    → fitting written p (squares_where test) ≡ fitting written p (squares_at p)
unfolding squares_where
fitting_where written p test h within =
    fitting_within written p test (squares_of_board widest) (λ u good. (within u good).0)
    ∙ sym (fitting_within written p (on_board (board_of p)) (squares_of_board widest) (λ u good. (within u good).1))
    ∙ sym (ap (fitting written p) (board_squares (board_of p) h))

-- ---- sites that are those of what fits

-- each square of the set is a site
pub every_site : (written : Square → RuleInstance) (p : Position) (us : List Square) → IsSetOf (λ u. fits (written u) p) us
    → list_all (λ u. fits (written u) p) us ≡ true
every_site written p us set = all_from (λ u. fits (written u) p) us (λ u among. sym (set.has u) ∙ has_from us u among)

-- and they are enough
pub all_sites : (written : Square → RuleInstance) (p : Position) (us : List Square) → is_board (board_of p) ≡ true
    → ((u : Square) → fits (written u) p ≡ true → on_board (board_of p) u ≡ true) → IsSetOf (λ u. fits (written u) p) us
    → fitting written p us ≡ fitting written p (squares_at p)
all_sites written p us h on set = ap (fitting written p) set.in_order ∙ fitting_where written p (λ u. fits (written u) p) h (λ u good. (good, on u good))

-- the square and the one above it are empty
abbrev pub two_empty : Position → Square → Bool
two_empty p u = is_empty p u && (nat_le 1 u.1 && is_empty p (above u))

two_gives : (p : Position) (u : Square) → two_empty p u ≡ true → (is_empty p u ≡ true) × (is_empty p (above u) ≡ true)
two_gives p u h =
    let both = and_parts (is_empty p u) (nat_le 1 u.1 && is_empty p (above u)) h in
    (both.0, (and_parts (nat_le 1 u.1) (is_empty p (above u)) both.1).1)

two_from : (p : Position) (u : Square) → is_empty p u ≡ true → is_empty p (above u) ≡ true → two_empty p u ≡ true
two_from p (c, r) here over =
    let parts = on_board_parts (board_of p) c r (and_parts (on_board (board_of p) (c, r)) _ here).0 in
    and_from _ _ here (and_from _ _ (le-leb 1 r parts.1) over)

pub claimeven_site : (p : Position) (u : Square) → fits (claimeven u) p ≡ true → on_board (board_of p) u ≡ true
claimeven_site p u good = (and_parts (on_board (board_of p) u) _ (fits_on_board (claimeven u) p good)).0

-- a Claimeven fits where its lower square is on an odd row and both squares are empty
pub claimeven_sites : (p : Position) (u : Square) → is_board (board_of p) ≡ true → (two_empty p u && (on_board widest u && is_odd u.1)) ≡ fits (claimeven u) p
claimeven_sites p u h = agree _ _
    (λ is.
    let both = and_parts (two_empty p u) (on_board widest u && is_odd u.1) is in
    let empty = two_gives p u both.0 in
    let odd = (and_parts (on_board widest u) (is_odd u.1) both.1).1 in
    fits_where (claimeven u) p (λ besides. odd) ∙ and_from _ _ (and_from _ _ empty.0 (and_from _ _ empty.1 refl)) refl)
    (λ good.
    let empty = and_parts (is_empty p u) _ (fits_empty (claimeven u) p good) in
    let over = (and_parts (is_empty p (above u)) true empty.1).0 in
    and_from _ _ (two_from p u empty.0 over) (and_from _ _ (on_widest (board_of p) h u (claimeven_site p u good)) (fits_shape (claimeven u) p good)))

pub vertical_site : (p : Position) (u : Square) → fits (vertical u) p ≡ true → on_board (board_of p) u ≡ true
vertical_site p u good = (and_parts (on_board (board_of p) u) _
    (and_parts (on_board (board_of p) u && on_board (board_of p) (above u)) (is_even u.1) (fits_shape (vertical u) p good)).0).0

even_not_odd : (n : ℕ) → is_even n ≡ not (is_odd n)
even_not_odd n = elim (cases_Bool (is_even n)) [
  | inl even ↦ let zero : n % 2 ≡ 0 = eqb-true (n % 2) 0 even in even ∙ sym (ap not (ne_eqb (n % 2) 1 (λ one. omega (arith, zero, one))))
  | inr odd ↦ odd ∙ sym (ap not (eq-eqb (n % 2) 1 (rest (λ zero. both_ways (is_even n) odd (eq-eqb (n % 2) 0 zero)))))
]
  where
    rest : (n % 2 ≡ 0 → ⊥) → n % 2 ≡ 1
    rest some = elim (cases_eq (n % 2) 0) [ inl zero ↦ absurd (some zero) | inr more ↦ omega arith ]

-- a Vertical fits where its square is on an even row and it and the square above are empty
pub vertical_sites : (p : Position) (u : Square) → is_board (board_of p) ≡ true → (two_empty p u && not (on_board widest u && is_odd u.1)) ≡ fits (vertical u) p
vertical_sites p u h = agree _ _
    (λ is.
    let both = and_parts (two_empty p u) (not (on_board widest u && is_odd u.1)) is in
    let empty = two_gives p u both.0 in
    let on = (and_parts (on_board (board_of p) u) _ empty.0).0 in
    let even : is_even u.1 ≡ true = even_not_odd u.1 ∙ sym (ap (λ b. not (b && is_odd u.1)) (on_widest (board_of p) h u on)) ∙ both.1 in
    let over = (and_parts (on_board (board_of p) (above u)) _ empty.1).0 in
    fits_where (vertical u) p (λ besides. and_from _ _ (and_from _ _ on over) even) ∙ and_from _ _ refl (and_from _ _ empty.0 empty.1))
    (λ good.
    let empty = and_parts (is_empty p u) (is_empty p (above u)) (fits_more (vertical u) p good) in
    let even = (and_parts (on_board (board_of p) u && on_board (board_of p) (above u)) (is_even u.1) (fits_shape (vertical u) p good)).1 in
    let on = on_widest (board_of p) h u (vertical_site p u good) in
    and_from _ _ (two_from p u empty.0 empty.1) (ap (λ b. not (b && is_odd u.1)) on ∙ sym (even_not_odd u.1) ∙ even))

-- ---- sites of playable squares

pub fitting_triples_within : {X Y Z : Type 0} (written : X × (Y × Z) → RuleInstance) (p : Position) (g : X → Bool) (h : Y → Bool) (k : Z → Bool) (xs : List X)
    (ys : List Y) (zs : List Z)
    → ((x : X) (y : Y) (z : Z) → fits (written (x, (y, z))) p ≡ true → (g x ≡ true) × (h y ≡ true) × (k z ≡ true))
    → fitting written p (each_with (filter g xs) (each_with (filter h ys) (filter k zs))) ≡ fitting written p (each_with xs (each_with ys zs))
fitting_triples_within written p g h k xs ys zs within =
    ap (λ twos. fitting written p (each_with (filter g xs) twos)) (filter_pairs h k ys zs)
    ∙ fitting_pairs_within written p g (both_pass h k) xs (each_with ys zs)
    (λ x two good. let all = within x two.0 two.1 good in (all.0, and_from (h two.0) (k two.1) all.1 all.2))

-- an instance with an empty zone fits where it is shaped and has what its rule asks besides
pub fits_shaped : (w : RuleInstance) (p : Position) → (is_shaped w (board_of p) ≡ true → list_all (is_empty p) (zone_of w) ≡ true) → fits_besides w p ≡ true
    → fits w p ≡ is_shaped w (board_of p)
fits_shaped w p empty besides = agree _ _
    (λ good. (and_parts (is_shaped w (board_of p)) (list_all (is_empty p) (zone_of w))
    (and_parts (is_shaped w (board_of p) && list_all (is_empty p) (zone_of w)) (fits_besides w p) good).0).0)
    (λ shaped. and_from _ _ (and_from _ _ shaped (empty shaped)) besides)

pub baseinverse_site : (p : Position) (s t : Square) → (is_playable p s && is_playable p t) ≡ true
    → fits (baseinverse s t) p ≡ is_shaped (baseinverse s t) (board_of p)
baseinverse_site p s t h =
    let both = and_parts (is_playable p s) (is_playable p t) h in
    fits_shaped (baseinverse s t) p (λ shaped. and_from _ _ (playable_empty p s both.0) (and_from _ _ (playable_empty p t both.1) refl)) h

pub baseclaim_site : (p : Position) (a b e : Square) → is_board (board_of p) ≡ true → (is_playable p a && is_playable p b && is_playable p e) ≡ true
    → fits (baseclaim a b e) p ≡ is_shaped (baseclaim a b e) (board_of p)
baseclaim_site p a b e h playable =
    let all = and_parts (is_playable p a && is_playable p b) (is_playable p e) playable in
    let two = and_parts (is_playable p a) (is_playable p b) all.0 in
    fits_shaped (baseclaim a b e) p
    (λ shaped. and_from _ _ (playable_empty p a two.0) (and_from _ _ (playable_empty p b two.1) (and_from _ _ (playable_empty p e all.1)
    (and_from _ _ (empty_over p b h (odd shaped) two.1) refl)))) playable
  where
    odd : is_shaped (baseclaim a b e) (board_of p) ≡ true → is_odd b.1 ≡ true
    odd shaped =
        let shape = and_parts (list_all (on_board (board_of p)) (zone_of (baseclaim a b e))) (has_shape (baseclaim a b e) (board_of p)) shaped in
        let apart : Bool = not (a.0 == b.0) && not (a.0 == e.0) && not (b.0 == e.0) in
        let all = and_parts (apart && is_even a.1 && is_odd b.1) (is_even e.1) shape.1 in
        (and_parts (apart && is_even a.1) (is_odd b.1) all.0).1

-- where all of two lists pass, each two of them do
pub pairs_pass : {X Y : Type 0} (g : X → Bool) (h : Y → Bool) (xs : List X) (ys : List Y) → list_all g xs ≡ true → list_all h ys ≡ true
    → list_all (λ x. list_all (λ y. g x && h y) ys) xs ≡ true
pairs_pass g h xs ys first second =
    all_from _ xs (λ x at_x. all_from _ ys (λ y at_y. and_from _ _ (all_gives g xs x first at_x) (all_gives h ys y second at_y)))

-- each three playable squares
pub playable_triples : (p : Position) (ss ts us : List Square) → list_all (is_playable p) ss ≡ true → list_all (is_playable p) ts ≡ true
    → list_all (is_playable p) us ≡ true
    → list_all (λ s. list_all (λ t. list_all (λ u. is_playable p s && is_playable p t && is_playable p u) us) ts) ss ≡ true
playable_triples p ss ts us first second third =
    all_from _ ss (λ s at_s. all_from _ ts (λ t at_t. all_from _ us (λ u at_u.
    and_from _ _ (and_from _ _ (all_gives (is_playable p) ss s first at_s) (all_gives (is_playable p) ts t second at_t))
    (all_gives (is_playable p) us u third at_u))))

-- the playable squares, and those of them that pass a test
pub all_filtered : {X : Type 0} (test : X → Bool) (xs : List X) → list_all test (filter test xs) ≡ true
all_filtered test xs = all_from test (filter test xs) (λ x among. (Among-filter_gives test xs x among).1)

pub all_kept : {X : Type 0} (test f : X → Bool) (xs : List X) → list_all test xs ≡ true → list_all test (filter f xs) ≡ true
all_kept test f xs h = all_from test (filter f xs) (λ x among. all_gives test xs x h (Among-filter_gives f xs x among).0)

pub these_playable : (p : Position) (us : List Square) → us ≡ playable_squares p → list_all (is_playable p) us ≡ true
these_playable p us same = ap (list_all (is_playable p)) same ∙ all_filtered (is_playable p) (squares_at p)

-- ---- playable squares by their rows

has_playable : (p : Position) (u : Square) → has_square (playable_squares p) u ≡ is_playable p u
has_playable p u = agree _ _
    (λ h. (Among-filter_gives (is_playable p) (squares_at p) u (has_gives (playable_squares p) u h)).1)
    (λ h. has_from (playable_squares p) u
    (Among-filter (is_playable p) (squares_at p) u (has_gives (squares_at p) u (has_on_board (board_of p) u ∙ (and_parts (on_board (board_of p) u) _ h).0))
    h))

-- a set of playable squares is the list of those that pass the test
pub some_playables : (p : Position) (test : Square → Bool) (us : List Square) → is_board (board_of p) ≡ true
    → IsSetOf (λ u. has_square (playable_squares p) u && test u) us
    → us ≡ filter test (playable_squares p)
unfolding squares_where
some_playables p test us h set =
    let passes : Square → Bool = λ u. is_playable p u && test u in
    set.in_order
    ∙ filter_same (λ u. has_square (playable_squares p) u && test u) passes (squares_of_board widest) (λ u among. ap (λ b. b && test u) (has_playable p u))
    ∙ sym (filter_within passes (on_board (board_of p)) (squares_of_board widest)
    (λ u good. (and_parts (on_board (board_of p) u) _ (and_parts (is_playable p u) (test u) good).0).0))
    ∙ ap (filter passes) (sym (board_squares (board_of p) h))
    ∙ sym (filter_both (is_playable p) test (squares_at p))

-- a square on an odd row, and one that isn't
abbrev pub on_odd_row : Square → Bool
on_odd_row u = on_board widest u && is_odd u.1

abbrev pub off_odd_rows : Square → Bool
off_odd_rows u = not (on_odd_row u)

-- the squares of a Baseclaim by their rows
claim_rows : (p : Position) (a b e : Square) → is_board (board_of p) ≡ true → fits (baseclaim a b e) p ≡ true → (off_odd_rows a ≡ true) × (on_odd_row b ≡ true)
    × (off_odd_rows e ≡ true)
claim_rows p a b e h good =
    let apart : Bool = not (a.0 == b.0) && not (a.0 == e.0) && not (b.0 == e.0) in
    let all = and_parts (apart && is_even a.1 && is_odd b.1) (is_even e.1) (fits_shape (baseclaim a b e) p good) in
    let front = and_parts (apart && is_even a.1) (is_odd b.1) all.0 in
    let on = all_gives (on_board (board_of p)) (zone_of (baseclaim a b e)) b (fits_on_board (baseclaim a b e) p good) (inr (inl refl)) in
    (even_off a (and_parts apart (is_even a.1) front.0).1, and_from _ _ (on_widest (board_of p) h b on) front.1, even_off e all.1)
  where
    even_off : (u : Square) → is_even u.1 ≡ true → off_odd_rows u ≡ true
    even_off u even = elim (cases_Bool (on_board widest u)) [
      | inl on ↦ rw on (sym (even_not_odd u.1) ∙ even)
      | inr off ↦ rw off refl
    ]

pub baseclaim_sites : (p : Position) (firsts seconds thirds : List Square) → is_board (board_of p) ≡ true → firsts ≡ filter off_odd_rows (playable_squares p)
    → seconds ≡ filter on_odd_row (playable_squares p)
    → thirds ≡ filter off_odd_rows (playable_squares p)
    → fitting (λ three. baseclaim three.0 three.1.0 three.1.1) p (each_with firsts (each_with seconds thirds)) ≡ listed kinds.Baseclaim p
baseclaim_sites p firsts seconds thirds h first second third =
    let claim : Square × (Square × Square) → RuleInstance = λ three. baseclaim three.0 three.1.0 three.1.1 in
    let evens = filter off_odd_rows (playable_squares p) in let odds = filter on_odd_row (playable_squares p) in
    ap (λ us. fitting claim p (each_with us (each_with seconds thirds))) first
    ∙ ap (λ us. fitting claim p (each_with evens (each_with us thirds))) second
    ∙ ap (λ us. fitting claim p (each_with evens (each_with odds us))) third
    ∙ fitting_triples_within claim p off_odd_rows on_odd_row off_odd_rows (playable_squares p) (playable_squares p) (playable_squares p)
    (λ a b e good. claim_rows p a b e h good)

-- the playable squares in odd rows, and the others, from a mask of them all
pub playables_off : (p : Position) (all mask odds us : List Square) → is_board (board_of p) ≡ true → all ≡ playable_squares p → IsSetOf (has_square all) mask
    → IsSetOf on_odd_row odds
    → IsSetOf (λ u. has_square mask u && not (has_square odds u)) us → us ≡ filter off_odd_rows (playable_squares p)
playables_off p all mask odds us h same masked odd set = some_playables p off_odd_rows us h (set_same _ _ us set (λ u.
    ap (λ b. b && not (has_square odds u)) (masked.has u ∙ ap (λ vs. has_square vs u) same) ∙ ap (λ b. has_square (playable_squares p) u && not b) (odd.has u)))

pub playables_on : (p : Position) (all mask odds us : List Square) → is_board (board_of p) ≡ true → all ≡ playable_squares p → IsSetOf (has_square all) mask
    → IsSetOf on_odd_row odds
    → IsSetOf (λ u. has_square mask u && has_square odds u) us → us ≡ filter on_odd_row (playable_squares p)
playables_on p all mask odds us h same masked odd set = some_playables p on_odd_row us h (set_same _ _ us set (λ u.
    ap (λ b. b && has_square odds u) (masked.has u ∙ ap (λ vs. has_square vs u) same) ∙ ap (λ b. has_square (playable_squares p) u && b) (odd.has u)))

pub kept_playable : (p : Position) (test : Square → Bool) (us : List Square) → us ≡ filter test (playable_squares p) → list_all (is_playable p) us ≡ true
kept_playable p test us same = ap (list_all (is_playable p)) same
    ∙ all_kept (is_playable p) test (playable_squares p) (all_filtered (is_playable p) (squares_at p))
