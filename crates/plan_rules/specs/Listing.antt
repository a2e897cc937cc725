-- The instances of each rule that fit at a position, in the order of the squares and groups that they are written with.
-- Which instances fit is the rule's; the order is this project's own choice.
use Rattle.std.specs.Prelude.{◌≡◌, ◌⊎◌, ℕ, Bool, false, ◌&&◌, ◌||◌, if◌then◌else◌, List, [], ◌∷◌, map, filter}
use Rattle.std.specs.List.{list_any, flat_map}
use Rattle.game_rules.specs.Board.{Square, on_board}
use Rattle.game_rules.specs.Position.{Position, board_of}
use Rattle.game_rules.specs.Squares.{Precedes as SquarePrecedes}
use Rattle.game_rules.specs.Groups.{Precedes as GroupPrecedes}
use Rattle.game_rules.specs.Squares.{same_square, squares_in_column, squares_of_board, is_playable}
use Rattle.game_rules.specs.Groups.{same_group, groups_of}
use Rattle.plan_rules.specs.Squares.{under, is_even}
use Rattle.plan_rules.specs.Rules.{RuleInstance, claimeven, baseinverse, lowinverse, highinverse, baseclaim, vertical, aftereven, before, specialbefore, is_low_column, fits}
use Rattle.plan_rules.specs.declared.Kind.{Kind}
use Rattle.plan_rules.specs.declared.Kind.TheVariants as kinds
use Rattle.game_rules.specs.declared.TheConstants.{MOST_GROUPS}

-- ---- what instances are written with

-- the squares of the position's board, and those that are playable, in square order
abbrev pub squares_at : Position → List Square
squares_at p = squares_of_board (board_of p)

abbrev pub playable_squares : Position → List Square
playable_squares p = filter (is_playable p) (squares_at p)

-- each element of the first list beside each of the second
abbrev pub each_with : {X Y : Type 0} → List X → List Y → List (X × Y)
each_with xs ys = flat_map (λ x. map (λ y. (x, y)) ys) xs

-- where an inverse can begin: an even square that is playable, or that lies above one that is
abbrev pub is_bottom : Position → Square → Bool
is_bottom p u = is_even u.1 && (is_playable p u || is_playable p (under u))

-- the bottom and the top of a column of the board that a Lowinverse can own, beside another one on the same ground
abbrev pub is_column_over : Position → Square × Square → Bool
is_column_over p column = is_bottom p column.0 && (on_board (board_of p) column.1 && is_low_column column.0 column.1)

-- the columns of a Lowinverse on the board, each by its bottom and its top: by the bottom, and then by the top
abbrev pub tops_over : Position → Square → List (Square × Square)
tops_over p bottom = map (λ top. (bottom, top)) (filter (is_low_column bottom) (squares_in_column p.rows bottom.0))

abbrev pub low_columns : Position → List (Square × Square)
low_columns p = flat_map (tops_over p) (squares_at p)

-- ---- the lists

-- the instances that fit, of those that are written with some elements
abbrev pub fitting : {X : Type 0} → (X → RuleInstance) → Position → List X → List RuleInstance
fitting written p xs = filter (λ w. fits w p) (map written xs)

-- the instance where it fits, and else none
abbrev pub if_fits : Position → RuleInstance → List RuleInstance
if_fits p w = if fits w p then w ∷ [] else []

-- All instances of a kind that could fit, in the order of what they are written with: by the first square or group, then
-- by the second, and so on.
abbrev pub candidates : Kind → Position → List RuleInstance
candidates kinds.Claimeven p = map claimeven (squares_at p)
candidates kinds.Baseinverse p = map (λ two. baseinverse two.0 two.1) (each_with (playable_squares p) (playable_squares p))
candidates kinds.Lowinverse p = map (λ two. lowinverse two.0.0 two.0.1 two.1.0 two.1.1) (each_with (low_columns p) (low_columns p))
candidates kinds.Highinverse p = map (λ two. highinverse two.0 two.1) (each_with (squares_at p) (squares_at p))
candidates kinds.Baseclaim p = map (λ three. baseclaim three.0 three.1.0 three.1.1) (each_with (playable_squares p) (each_with (playable_squares p) (playable_squares p)))
candidates kinds.Vertical p = map vertical (squares_at p)
candidates kinds.Aftereven p = map aftereven (groups_of (board_of p))
candidates kinds.Before p = map before (groups_of (board_of p))
candidates kinds.Specialbefore p = map (λ three. specialbefore three.0 three.1.0 three.1.1) (each_with (groups_of (board_of p)) (each_with (playable_squares p) (playable_squares p)))

-- those that fit
abbrev pub listed : Kind → Position → List RuleInstance
listed kind p = filter (λ w. fits w p) (candidates kind p)

-- no board has more of a kind that fit
abbrev pub most_listed : Kind → ℕ
most_listed kinds.Claimeven = 50
most_listed kinds.Baseinverse = 45
most_listed kinds.Lowinverse = 720
most_listed kinds.Highinverse = 45
most_listed kinds.Baseclaim = 720
most_listed kinds.Vertical = 50
most_listed kinds.Aftereven = MOST_GROUPS
most_listed kinds.Before = MOST_GROUPS
most_listed kinds.Specialbefore = 1800

-- ---- whether a list has an instance

-- the same rule, written with the same squares and groups
abbrev pub same_instance : RuleInstance → RuleInstance → Bool
same_instance (claimeven x) (claimeven u) = same_square x u
same_instance (baseinverse s t) (baseinverse u v) = same_square s u && same_square t v
same_instance (lowinverse x x_top y y_top) (lowinverse u u_top v v_top) = same_square x u && same_square x_top u_top && same_square y v && same_square y_top v_top
same_instance (highinverse x y) (highinverse u v) = same_square x u && same_square y v
same_instance (baseclaim a b e) (baseclaim u v w) = same_square a u && same_square b v && same_square e w
same_instance (vertical e) (vertical u) = same_square e u
same_instance (aftereven g) (aftereven h) = same_group g h
same_instance (before g) (before h) = same_group g h
same_instance (specialbefore g f e0) (specialbefore h u v) = same_group g h && same_square f u && same_square e0 v
same_instance v w = false

abbrev pub has_instance : List RuleInstance → RuleInstance → Bool
has_instance ws w = list_any (same_instance w) ws

-- ---- the order

-- one pair stands before another: by its first element, and where both have the same by its second
abbrev pub ByTwo : {X Y : Type 0} → (X → X → Type 0) → (Y → Y → Type 0) → X × Y → X × Y → Type 0
ByTwo R S (a, b) (c, d) = R a c ⊎ ((a ≡ c) × S b d)

-- one instance of a kind stands before another by what they are written with
abbrev pub Precedes : RuleInstance → RuleInstance → Type 0
Precedes (claimeven x) (claimeven u) = SquarePrecedes x u
Precedes (baseinverse s t) (baseinverse u v) = ByTwo SquarePrecedes SquarePrecedes (s, t) (u, v)
Precedes (lowinverse x x_top y y_top) (lowinverse u u_top v v_top) = ByTwo (ByTwo SquarePrecedes SquarePrecedes) (ByTwo SquarePrecedes SquarePrecedes) ((x, x_top), (y, y_top)) ((u, u_top), (v, v_top))
Precedes (highinverse x y) (highinverse u v) = ByTwo SquarePrecedes SquarePrecedes (x, y) (u, v)
Precedes (baseclaim a b e) (baseclaim u v w) = ByTwo SquarePrecedes (ByTwo SquarePrecedes SquarePrecedes) (a, (b, e)) (u, (v, w))
Precedes (vertical e) (vertical u) = SquarePrecedes e u
Precedes (aftereven g) (aftereven h) = GroupPrecedes g h
Precedes (before g) (before h) = GroupPrecedes g h
Precedes (specialbefore g f e0) (specialbefore h u v) = ByTwo GroupPrecedes (ByTwo SquarePrecedes SquarePrecedes) (g, (f, e0)) (h, (u, v))
Precedes v w = ⊥
