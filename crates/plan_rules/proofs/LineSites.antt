-- What the group rules ask of a line, said by sets of squares.
use Rattle.std.proofs.Common.{◌≡◌, ◌⊎◌, ℕ, zero, suc, add-one, ◌+◌, ◌<◌, ◌≤◌, Bool, true, false, not, ◌&&◌, ◌||◌, ◌==◌, nat_le, nat_lt, List, [], ◌∷◌, None}
use Rattle.std.proofs.Common.{is_none, refl, sym, ap, ◌∙◌, inl, inr, arith}
use Rattle.std.specs.List.{list_all, list_any, range_with_len}
use Rattle.std.proofs.Math.Bool.{or-false, or_assoc}
use Rattle.std.proofs.lemmas.Bool.{cases_Bool, cases_lt, and_parts, and_from, le-leb, lt-ltb, ltb-true}
use Rattle.game_rules.specs.Board.{Board, Square, below, on_board, is_line}
use Rattle.game_rules.specs.Position.{Position, board_of, height, men_in, man_at, has_man}
use Rattle.game_rules.specs.Squares.{has_square, is_empty, is_playable, widest_with, IsSetOf}
use Rattle.game_rules.specs.Groups.{Group, squares_of, lies_on, is_free_for, groups_of, groups_where}
use Rattle.game_rules.specs.declared.Side.TheVariants.{White, Black}
use Rattle.game_rules.proofs.Ends.{on_board_parts, on_board_from}
use Rattle.game_rules.proofs.Lists.{Among, all_gives, all_from}
use Rattle.game_rules.proofs.Moves.{man_past, man_within}
use Rattle.game_rules.proofs.Squares.{agree, has_gives, has_from, any_in_same}
use Rattle.plan_rules.specs.Squares.{above, each_of}
use Rattle.plan_rules.proofs.Turns.{empty_parts}
use Rattle.plan_rules.specs.Rules.{RuleInstance, specialbefore, zone_of, has_shape, is_shaped, is_open_line, is_low_line, fits}
use Rattle.plan_rules.proofs.Before.{low_open}
use Rattle.plan_rules.proofs.Fits.{fits_where}
use Rattle.plan_rules.proofs.Lines.{open_lies}
use Rattle.plan_rules.specs.Listing.{fitting}
use Rattle.plan_rules.proofs.Sites.{fitting_within, all_filtered}

-- ---- tests of some of a list's squares

pub each_of_same : (chosen picked test passes : Square → Bool) (us : List Square) → ((u : Square) → Among u us → chosen u ≡ picked u)
    → ((u : Square) → Among u us → picked u ≡ true → test u ≡ passes u)
    → each_of chosen test us ≡ each_of picked passes us
each_of_same chosen picked test passes [] same too = refl
each_of_same chosen picked test passes (u ∷ us) same too =
    ap (λ b. (not b || test u) && each_of chosen test us) (same u (inl refl))
    ∙ first (cases_Bool (picked u))
    ∙ ap (λ b. (not (picked u) || passes u) && b) (each_of_same chosen picked test passes us (λ v among. same v (inr among)) (λ v among. too v (inr among)))
  where
    first : (picked u ≡ true) ⊎ (picked u ≡ false)
        → ((not (picked u) || test u) && each_of chosen test us) ≡ ((not (picked u) || passes u) && each_of chosen test us)
    first (inl is) = ap (λ b. (not (picked u) || b) && each_of chosen test us) (too u (inl refl) is)
    first (inr not) = rw not refl

-- a set that has those of the squares which are chosen lies within another
pub chosen_within : (us set : List Square) (chosen test : Square → Bool) → IsSetOf (λ u. has_square us u && chosen u) set
    → list_all test set ≡ each_of chosen test us
chosen_within us set chosen test is = agree _ _
    (λ h. all_from _ us (λ u among. one u among h (cases_Bool (chosen u))))
    (λ h. all_from test set (λ u among.
    let both = and_parts (has_square us u) (chosen u) (sym (is.has u) ∙ has_from set u among) in
    let passes = all_gives (λ u. not (chosen u) || test u) us u h (has_gives us u both.0) in
    sym (ap (λ b. not b || test u) both.1) ∙ passes))
  where
    one : (u : Square) → Among u us → list_all test set ≡ true → (chosen u ≡ true) ⊎ (chosen u ≡ false) → (not (chosen u) || test u) ≡ true
    one u among h (inl is_chosen) = rw is_chosen (all_gives test set u h (has_gives set u (is.has u ∙ and_from _ _ (has_from us u among) is_chosen)))
    one u among h (inr other) = rw other refl

-- ---- lines

-- none has the property
pub none_all : {X : Type 0} (f : X → Bool) (xs : List X) → not (list_any f xs) ≡ list_all (λ x. not (f x)) xs
none_all f [] = refl
none_all f (x ∷ xs) = elim (cases_Bool (f x)) [
  | inl is ↦ rw is refl
  | inr other ↦ rw other (none_all f xs)
]

-- an empty square lies above its column's men
above_men : (p : Position) (c r : ℕ) → 1 ≤ r → man_at p (c, r) ≡ None → height p c < r
above_men p c r low none = elim (cases_lt (height p c) r) [
  | inl above ↦ above
  | inr under ↦ absurd (let some = man_within (men_in p c) r low under in cc (some.1, none))
]

-- an empty square of the board lies below the top row exactly where the square above it is empty
pub below_top : (p : Position) (u : Square) → is_empty p u ≡ true → (nat_le 1 u.1 && is_empty p (above u)) ≡ nat_lt u.1 p.rows
below_top p (c, r) empty =
    let parts = empty_parts p (c, r) empty in
    let at = on_board_parts (board_of p) c r parts.0 in
    let high : height p c < r = above_men p c r at.1 parts.1 in
    agree _ _
    (λ h.
    let over = (and_parts (on_board (board_of p) (c, r + 1)) _ (and_parts (nat_le 1 r) (is_empty p (c, r + 1)) h).1).0 in
    let row : r + 1 ≤ p.rows = (on_board_parts (board_of p) c (r + 1) over).2 in
    lt-ltb r p.rows (omega arith))
    (λ h.
    let row : r < p.rows = ltb-true r p.rows h in
    and_from _ _ (le-leb 1 r at.1)
    (and_from _ _ (on_board_from (board_of p) c (r + 1) at.0 (omega arith) (omega arith))
    (ap is_none (man_past (men_in p c) (r + 1) (omega (arith, high))))))

-- one more number of a range
any_more : (f : ℕ → Bool) (a n : ℕ) → list_any f (range_with_len a (suc n)) ≡ (list_any f (range_with_len a n) || f (a + n))
any_more f a zero = or-false (f a) ∙ ap f (omega arith)
any_more f a (suc n) = ap (λ b. f a || b) (any_more f (a + 1) n) ∙ sym (or_assoc (f a) (list_any f (range_with_len (a + 1) n)) (f (a + 1 + n)))
    ∙ ap (λ i. (f a || list_any f (range_with_len (a + 1) n)) || f i) (omega arith)

-- some square above it, among those of one more row
pub above_more : (set : Square → Bool) (u : Square) (k : ℕ)
    → list_any (λ i. set (u.0, u.1 + 1 + i)) (below (k + 1)) ≡ (list_any (λ i. set (u.0, u.1 + 1 + i)) (below k) || set (u.0, u.1 + 1 + k))
above_more set u k = ap (λ n. list_any (λ i. set (u.0, u.1 + 1 + i)) (below n)) (add-one k) ∙ any_more (λ i. set (u.0, u.1 + 1 + i)) 0 k
    ∙ ap (λ i. list_any (λ i. set (u.0, u.1 + 1 + i)) (below k) || set (u.0, u.1 + 1 + i)) (omega arith)

-- the squares of a line of the widest board have rows from 1
pub line_rows : (g : Group) → is_line (widest_with g.len) g.way g.anchor ≡ true → (u : Square) → Among u (squares_of g) → 1 ≤ u.1
line_rows g line (c, r) among = (on_board_parts (widest_with g.len) c r (all_gives (on_board (widest_with g.len)) (squares_of g) (c, r) line among)).1

-- what lies above each chosen square of such a line
pub each_above : (g : Group) (chosen set lowered : List Square) (test : Square → Bool) → is_line (widest_with g.len) g.way g.anchor ≡ true
    → IsSetOf (λ u. nat_le 1 u.1 && test u) lowered
    → each_of (has_square chosen) (has_square lowered) (squares_of g) ≡ each_of (has_square chosen) test (squares_of g)
each_above g chosen set lowered test line is = each_of_same (has_square chosen) (has_square chosen) (has_square lowered) test (squares_of g) (λ u among. refl)
    (λ u among taken. is.has u ∙ ap (λ b. b && test u) (le-leb 1 u.1 (line_rows g line u among)))

-- ---- the groups that Black can still fill

abbrev pub is_open_for_black : Position → Group → Bool
is_open_for_black p g = lies_on (board_of p) g && is_free_for Black p g

-- an open line is one of them with an empty square
pub open_is : (p : Position) (g : Group) → is_open_line p g ≡ (is_open_for_black p g && list_any (is_empty p) (squares_of g))
open_is p g = ap (λ b. (lies_on (board_of p) g && b) && list_any (is_empty p) (squares_of g)) (sym (none_all (has_man p White) (squares_of g)))

pub open_by_empty : (p : Position) (g : Group) (squares : List Square) → IsSetOf (has_square (squares_of g)) squares → is_open_for_black p g ≡ true
    → is_open_line p g ≡ list_any (is_empty p) squares
open_by_empty p g squares is still =
    open_is p g ∙ ap (λ b. b && list_any (is_empty p) (squares_of g)) still ∙ sym (any_in_same (is_empty p) squares (squares_of g) is.has)

pub open_sites : (p : Position) (gs : List Group) → gs ≡ groups_where (board_of p) (is_open_for_black p) → list_all (is_open_for_black p) gs ≡ true
unfolding groups_where
open_sites p gs same = ap (list_all (is_open_for_black p)) same ∙ all_filtered (is_open_for_black p) (groups_of (board_of p))

-- and they are enough for a rule that rests on an open line
pub all_open : (written : Group → RuleInstance) (p : Position) (gs : List Group) → ((g : Group) → fits (written g) p ≡ true → is_open_line p g ≡ true)
    → gs ≡ groups_where (board_of p) (is_open_for_black p) → fitting written p gs ≡ fitting written p (groups_of (board_of p))
unfolding groups_where
all_open written p gs opened same =
    ap (fitting written p) same
    ∙ fitting_within written p (is_open_for_black p) (groups_of (board_of p))
    (λ g good. (and_parts (is_open_for_black p g) _ (sym (open_is p g) ∙ opened g good)).0)

-- ---- Specialbefore

-- what its shape says besides the board
pub special_parts : (g : Group) (f e0 : Square) (board : Board) → is_shaped (specialbefore g f e0) board ≡ true
    → (lies_on board g ≡ true) × (on_board board f ≡ true) × (not (has_square (squares_of g) f) ≡ true) × (has_square (squares_of g) e0 ≡ true)
    × (not (f.0 == e0.0) ≡ true)
special_parts g f e0 board h =
    let shape = and_parts (list_all (on_board board) (zone_of (specialbefore g f e0))) (has_shape (specialbefore g f e0) board) h in
    let all = and_parts (lies_on board g && on_board board f && not (has_square (squares_of g) f) && has_square (squares_of g) e0) (not (f.0 == e0.0)) shape.1
    in
    let four = and_parts (lies_on board g && on_board board f && not (has_square (squares_of g) f)) (has_square (squares_of g) e0) all.0 in
    let three = and_parts (lies_on board g && on_board board f) (not (has_square (squares_of g) f)) four.0 in
    let two = and_parts (lies_on board g) (on_board board f) three.0 in
    (two.0, two.1, three.1, four.1, all.1)

-- where the shape is one of the widest board, it fits by its line and its playable squares
pub specialbefore_fits : (g : Group) (f e0 : Square) (p : Position) → is_shaped (specialbefore g f e0) (widest_with g.len) ≡ true
    → fits (specialbefore g f e0) p ≡ (is_low_line p g && is_playable p f && is_playable p e0)
specialbefore_fits g f e0 p shaped = fits_where (specialbefore g f e0) p (λ h.
    let parts = special_parts g f e0 (widest_with g.len) shaped in
    let all = and_parts (is_low_line p g && is_playable p f) (is_playable p e0) h in
    let two = and_parts (is_low_line p g) (is_playable p f) all.0 in
    let lies = open_lies p g (low_open p g two.0) in
    let on = (and_parts (on_board (board_of p) f) _ two.1).0 in
    and_from _ _ (and_from _ _ (and_from _ _ (and_from _ _ lies on) parts.2) parts.3) parts.4)
