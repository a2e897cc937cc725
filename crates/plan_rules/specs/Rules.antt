-- The nine rules, each by cases over squares and sets of squares: what an instance owns, where it fits, what it
-- answers, which sets of squares it promises that White never owns whole, what it gives to other rules and what it
-- rests on. They are this project's own profile "after Allis".
use Rattle.std.specs.Prelude.{◌+◌, Bool, true, false, not, ◌&&◌, ◌||◌, ◌==◌, nat_lt, nat_le, if◌then◌else◌, List, [], ◌∷◌, ◌++◌, Option, Some, None}
use Rattle.std.specs.List.{list_all, list_any, flat_map}
use Rattle.game_rules.specs.Board.{Board, Square, below, on_board}
use Rattle.game_rules.specs.Position.{Position, board_of, has_man, has_room, lowest_empty}
use Rattle.game_rules.specs.Squares.{same_square, has_square, is_empty, is_playable}
use Rattle.game_rules.specs.Groups.{Group, squares_of, lies_on}
use Rattle.game_rules.specs.declared.Side.TheVariants.{White}
use Rattle.plan_rules.specs.Squares.{above, under, is_even, is_odd, column_up, span, each_of}
use Rattle.plan_rules.specs.declared.Kind.{Kind}
use Rattle.plan_rules.specs.declared.Kind.TheVariants as kinds

-- An instance of a rule, as it is written. The letters are those of the comments below.
pub data RuleInstance : Type 0 where
  claimeven : Square → RuleInstance  -- lower
  baseinverse : Square → Square → RuleInstance  -- s, t
  lowinverse : Square → Square → Square → Square → RuleInstance  -- x, its top, y, its top
  highinverse : Square → Square → RuleInstance  -- x, y
  baseclaim : Square → Square → Square → RuleInstance  -- a, b, e
  vertical : Square → RuleInstance  -- e
  aftereven : Group → RuleInstance  -- G
  before : Group → RuleInstance  -- G
  specialbefore : Group → Square → Square → RuleInstance  -- G, f, e0

-- which rule it is an instance of
abbrev pub kind_of : RuleInstance → Kind
kind_of (claimeven x) = kinds.Claimeven
kind_of (baseinverse s t) = kinds.Baseinverse
kind_of (lowinverse x x_top y y_top) = kinds.Lowinverse
kind_of (highinverse x y) = kinds.Highinverse
kind_of (baseclaim a b e) = kinds.Baseclaim
kind_of (vertical e) = kinds.Vertical
kind_of (aftereven g) = kinds.Aftereven
kind_of (before g) = kinds.Before
kind_of (specialbefore g f e0) = kinds.Specialbefore

-- standing rules own no square
abbrev pub owns_no_zone : RuleInstance → Bool
owns_no_zone (claimeven x) = false
owns_no_zone (baseinverse s t) = false
owns_no_zone (lowinverse x x_top y y_top) = false
owns_no_zone (highinverse x y) = false
owns_no_zone (baseclaim a b e) = false
owns_no_zone w = true

-- the squares that an instance owns
abbrev pub zone_of : RuleInstance → List Square
zone_of (claimeven x) = x ∷ above x ∷ []
zone_of (baseinverse s t) = s ∷ t ∷ []
zone_of (lowinverse x x_top y y_top) = span x x_top ++ span y y_top
zone_of (highinverse x y) = column_up x 3 ++ column_up y 3
zone_of (baseclaim a b e) = a ∷ b ∷ e ∷ above b ∷ []
zone_of w = []

-- the line of Black's that a rule rests on
abbrev pub black_group_of : RuleInstance → Option Group
black_group_of (aftereven g) = Some g
black_group_of (before g) = Some g
black_group_of (specialbefore g f e0) = Some g
black_group_of w = None

-- ---- shape and fit

-- a column from an even row up to an even row, with at least one pair of squares below its top
abbrev pub is_low_column : Square → Square → Bool
is_low_column bottom top = (bottom.0 == top.0) && is_even bottom.1 && is_even top.1 && nat_le (bottom.1 + 2) top.1

-- the shape needs only the board; of Aftereven and Before it asks nothing
abbrev pub has_shape : RuleInstance → Board → Bool
has_shape (claimeven x) board = is_odd x.1
has_shape (baseinverse s t) board = nat_lt s.0 t.0
has_shape (lowinverse x x_top y y_top) board = nat_lt x.0 y.0 && is_low_column x x_top && is_low_column y y_top
has_shape (highinverse x y) board = nat_lt x.0 y.0 && is_even x.1 && is_even y.1
has_shape (baseclaim a b e) board = not (a.0 == b.0) && not (a.0 == e.0) && not (b.0 == e.0) && is_even a.1 && is_odd b.1 && is_even e.1
has_shape (vertical e) board = on_board board e && on_board board (above e) && is_even e.1
has_shape (aftereven g) board = true
has_shape (before g) board = true
has_shape (specialbefore g f e0) board = lies_on board g && on_board board f && not (has_square (squares_of g) f) && has_square (squares_of g) e0 && not (f.0 == e0.0)

-- With the whole zone on the board. A standing rule owns no square: Vertical and Specialbefore ask above for a board that
-- has their squares and their line; Aftereven and Before ask for it where they fit.
abbrev pub is_shaped : RuleInstance → Board → Bool
is_shaped w board = list_all (on_board board) (zone_of w) && has_shape w board

-- both bottoms are playable, or both squares just below the bottoms are
abbrev pub is_grounded : Position → Square → Square → Bool
is_grounded p x y = (is_playable p x && is_playable p y) || (is_playable p (under x) && is_playable p (under y))

-- a line of the board without a White man and with an empty square
abbrev pub is_open_line : Position → Group → Bool
is_open_line p g = lies_on (board_of p) g && list_all (λ u. not (has_man p White u)) (squares_of g) && list_any (is_empty p) (squares_of g)

-- and every empty square of it lies below the top row
abbrev pub is_low_line : Position → Group → Bool
is_low_line p g = is_open_line p g && each_of (is_empty p) (λ u. nat_lt u.1 p.rows) (squares_of g)

-- what the position has to offer besides an empty zone
abbrev pub fits_besides : RuleInstance → Position → Bool
fits_besides (claimeven x) p = true
fits_besides (baseinverse s t) p = is_playable p s && is_playable p t
fits_besides (lowinverse x x_top y y_top) p = is_grounded p x y
fits_besides (highinverse x y) p = is_grounded p x y
fits_besides (baseclaim a b e) p = is_playable p a && is_playable p b && is_playable p e
fits_besides (vertical e) p = is_empty p e && is_empty p (above e)
fits_besides (aftereven g) p = is_open_line p g
fits_besides (before g) p = is_low_line p g
fits_besides (specialbefore g f e0) p = is_low_line p g && is_playable p f && is_playable p e0

-- the shape, an empty zone, and what the rule asks besides
abbrev pub fits : RuleInstance → Position → Bool
fits w p = is_shaped w (board_of p) && list_all (is_empty p) (zone_of w) && fits_besides w p

-- ---- Black's reply to White's move `last`, at the position after it

-- Highinverse, with `last` in the column of u: a bottom is answered by its own middle while the other bottom is
-- empty, else by the other top; a middle by its own top; a top by the other bottom
abbrev pub high_reply : Square → Square → Position → Square → Option Square
high_reply u v now last =
    if same_square last u then (if is_empty now v then Some (above u) else Some (above (above v)))
    else (if same_square last (above u) then Some (above (above u))
    else (if same_square last (above (above u)) then Some v else None))

-- Lowinverse, with `last` in the column up to this top: the top by the playable square of the other column, each other
-- square by the one above it
abbrev pub low_reply : Square → Square → Position → Square → Option Square
low_reply top other now last = if same_square last top then lowest_empty now other.0 else Some (above last)

-- Claimeven: the lower square by the upper. Baseinverse: each by the other. Lowinverse and Highinverse: as above, in the
-- column of White's square. Baseclaim: a and b by e while e is empty, else by the square above b; e by b; the square
-- above b by a.
abbrev pub reply_to : RuleInstance → Position → Square → Option Square
reply_to (claimeven x) now last = if same_square last x then Some (above x) else None
reply_to (baseinverse s t) now last = if same_square last s then Some t else (if same_square last t then Some s else None)
reply_to (lowinverse x x_top y y_top) now last =
    if has_square (span x x_top) last then low_reply x_top y now last
    else (if has_square (span y y_top) last then low_reply y_top x now last else None)
reply_to (highinverse x y) now last = if has_square (column_up x 3) last then high_reply x y now last else high_reply y x now last
reply_to (baseclaim a b e) now last =
    if same_square last a then (if is_empty now e then Some e else Some (above b))
    else (if same_square last b then (if is_empty now e then Some e else Some (above b))
    else (if same_square last e then Some b
    else (if same_square last (above b) then Some a else None)))
reply_to w now last = None

-- the squares of its zone to which a rule names no answer: a Claimeven's upper square, and a Lowinverse's top while the
-- other column is full
abbrev pub has_no_answer : RuleInstance → Position → Square → Bool
has_no_answer (claimeven x) now last = same_square last (above x)
has_no_answer (lowinverse x x_top y y_top) now last =
    if has_square (span x x_top) last then same_square last x_top && not (has_room now y.0) else same_square last y_top && not (has_room now x.0)
has_no_answer w now last = false

-- ---- what instances give to others

-- The facts that standing rules rest on: the squares that are empty at the plan's position, the upper squares of its
-- Claimevens, the squares that White never owns together with the one above, and the pairs of which White never owns
-- both.
pub record Facts : Type 0 where
  pub empty : Square → Bool
  pub upper : Square → Bool
  pub pair : Square → Bool
  pub twin : List (Square × Square)

-- what an instance itself gives: the upper square of a Claimeven
abbrev pub upper_of : RuleInstance → List Square
upper_of (claimeven x) = above x ∷ []
upper_of w = []

-- a Lowinverse gives all its squares but the two tops, a Highinverse its two middles
abbrev pub pair_of : RuleInstance → List Square
pair_of (lowinverse x x_top y y_top) = span x (under x_top) ++ span y (under y_top)
pair_of (highinverse x y) = above x ∷ above y ∷ []
pair_of w = []

-- a Baseinverse gives its two squares as twins
abbrev pub twin_of : RuleInstance → Option (Square × Square)
twin_of (baseinverse s t) = Some (s, t)
twin_of w = None

abbrev pub as_list : Option (Square × Square) → List (Square × Square)
as_list None = []
as_list (Some twin) = twin ∷ []

-- the facts of a list of instances at a position
abbrev pub facts_of : Position → List RuleInstance → Facts
facts_of p ws = record {
  empty = is_empty p;
  upper = has_square (flat_map upper_of ws);
  pair = has_square (flat_map pair_of ws);
  twin = flat_map (λ w. as_list (twin_of w)) ws;
}

-- ---- what is barred, and what it rests on

-- some square above it in its column; no board has more than ten rows
abbrev pub some_above : (Square → Bool) → Square → Bool
some_above set u = list_any (λ i. set (u.0, u.1 + 1 + i)) (below 10)

-- an instance promises that White never owns the whole set, where it holds one of these sets whole
abbrev pub barred : RuleInstance → Facts → (Square → Bool) → Bool
barred (claimeven x) facts set = set (above x)
barred (baseinverse s t) facts set = set s && set t
barred (lowinverse x x_top y y_top) facts set =
    (list_any (λ u. is_odd u.1 && set u) (span x x_top) && list_any (λ u. is_odd u.1 && set u) (span y y_top))
    || (set x_top && set y_top)
    || list_any (λ u. is_odd u.1 && set u && set (above u)) (span x x_top ++ span y y_top)
barred (highinverse x y) facts set =
    (set (above (above x)) && set (above (above y))) || (set (above x) && set (above y))
    || (set (above x) && set (above (above x))) || (set (above y) && set (above (above y)))
    || (set x && set (above (above y))) || (set y && set (above (above x)))
barred (baseclaim a b e) facts set = (set a && set (above b)) || (set b && set e)
barred (vertical e) facts set = set e && set (above e)
barred (aftereven g) facts set = each_of facts.empty (some_above set) (squares_of g)
barred (before g) facts set = each_of facts.empty (λ u. set (above u)) (squares_of g)
barred (specialbefore g f e0) facts set = set f && each_of facts.empty (λ u. set (above u)) (squares_of g)

-- the two squares are twins, in either order
abbrev pub is_twin : List (Square × Square) → Square → Square → Bool
is_twin twins u v = list_any (λ twin. (same_square u twin.0 && same_square v twin.1) || (same_square u twin.1 && same_square v twin.0)) twins

-- what a standing rule rests on; a zone rule rests on nothing
abbrev pub is_supported : RuleInstance → Facts → Bool
is_supported (vertical e) facts = facts.pair e
is_supported (aftereven g) facts = each_of facts.empty facts.upper (squares_of g)
is_supported (before g) facts = each_of facts.empty (λ u. facts.upper u || facts.pair u) (squares_of g)
is_supported (specialbefore g f e0) facts = is_twin facts.twin f e0 && each_of facts.empty (λ u. same_square u e0 || facts.upper u || facts.pair u) (squares_of g)
is_supported w facts = true

-- ---- which two may stand together

-- no square is in both lists, and no two squares of them stand in one column
abbrev pub no_shared_square : List Square → List Square → Bool
no_shared_square us vs = list_all (λ u. not (has_square vs u)) us

abbrev pub no_shared_column : List Square → List Square → Bool
no_shared_column us vs = list_all (λ u. list_all (λ v. not (u.0 == v.0)) vs) us

-- the square lies above each of the others that stands in its column
abbrev pub is_over : Square → List Square → Bool
is_over x us = list_all (λ u. not (x.0 == u.0) || nat_lt u.1 x.1) us

-- the two squares of a Baseinverse lie directly below the two bottoms
abbrev pub rests_on : Square → Square → RuleInstance → Bool
rests_on x y (baseinverse s t) = same_square (above s) x && same_square (above t) y
rests_on x y w = false

-- Two zone instances that share a column and no square may stand together only so: a Claimeven above the other zone
-- in each shared column, or an inverse directly on a Baseinverse of its two columns.
abbrev pub stands_over : RuleInstance → RuleInstance → Bool
stands_over (claimeven x) w = is_over x (zone_of w)
stands_over (lowinverse x x_top y y_top) w = rests_on x y w
stands_over (highinverse x y) w = rests_on x y w
stands_over v w = false

-- one of the two is standing; or they share no square, and either no column or as said above
abbrev pub together : RuleInstance → RuleInstance → Bool
together v w =
    owns_no_zone v || owns_no_zone w
    || (no_shared_square (zone_of v) (zone_of w) && (no_shared_column (zone_of v) (zone_of w) || stands_over v w || stands_over w v))
