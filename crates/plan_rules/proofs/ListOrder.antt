-- Each list of fitting instances stands in order, each instance once.
use Rattle.std.proofs.Common.{◌≡◌, ℕ, ◌+◌, ◌<◌, List, map, filter, refl, ap, subst, inl, inr, arith}
use Rattle.std.specs.List.{flat_map}
use Rattle.game_rules.specs.Board.{below}
use Rattle.game_rules.specs.Position.{Position, board_of}
use Rattle.game_rules.specs.Squares.{Precedes as SquarePrecedes}
use Rattle.game_rules.specs.Squares.{is_playable, squares_in_column}
use Rattle.game_rules.specs.Groups.{Precedes as GroupPrecedes}
use Rattle.game_rules.specs.Groups.{groups_of}
use Rattle.game_rules.proofs.Lists.{Among, Among-map_gives}
use Rattle.game_rules.proofs.Groups.{Ordered, Ordered-filter, Ordered-map, Ordered-flat_map, Ordered-range, squares_in_order, groups_in_order}
use Rattle.plan_rules.specs.Rules.{claimeven, baseinverse, lowinverse, highinverse, baseclaim, vertical, aftereven, before, specialbefore, is_low_column, fits}
use Rattle.plan_rules.specs.declared.Kind.{Kind}
use Rattle.plan_rules.specs.declared.Kind.TheVariants as kinds
use Rattle.plan_rules.specs.Listing.{squares_at, playable_squares, low_columns, each_with, candidates, listed, ByTwo, Precedes}

-- the first element of what stands beside it
beside_is : {X Y : Type 0} (x : X) (ys : List Y) (two : X × Y) → Among two (map (λ y. (x, y)) ys) → x ≡ two.0
beside_is x ys two among = let from = Among-map_gives (λ y. (x, y)) ys two among in ap (λ (two : _ × _). two.0) from.2

Ordered-beside : {X Y : Type 0} (R : X → X → Type 0) (S : Y → Y → Type 0) (beside : X → List Y) (xs : List X) → Ordered R xs → ((x : X) → Ordered S (beside x))
    → Ordered (ByTwo R S) (flat_map (λ x. map (λ y. (x, y)) (beside x)) xs)
Ordered-beside R S beside xs first second = Ordered-flat_map R (ByTwo R S) (λ x. map (λ y. (x, y)) (beside x)) xs
    (λ x. Ordered-map S (ByTwo R S) (λ y. (x, y)) (beside x) (λ a b less. inr (refl, less)) (second x))
    (λ a b y z less in_a in_b. inl (subst (λ x. R x z.0) (beside_is a (beside a) y in_a) (subst (λ x. R a x) (beside_is b (beside b) z in_b) less)))
    first

Ordered-each : {X Y : Type 0} (R : X → X → Type 0) (S : Y → Y → Type 0) (xs : List X) (ys : List Y) → Ordered R xs → Ordered S ys
    → Ordered (ByTwo R S) (each_with xs ys)
Ordered-each R S xs ys first second = Ordered-beside R S (λ x. ys) xs first (λ x. second)

playable_order : (p : Position) → Ordered SquarePrecedes (playable_squares p)
playable_order p = Ordered-filter SquarePrecedes (is_playable p) (squares_at p) (squares_in_order (board_of p))

column_order : (rows c : ℕ) → Ordered SquarePrecedes (squares_in_column rows c)
column_order rows c = Ordered-map (λ i j. i < j) SquarePrecedes (λ i. (c, i + 1)) (below rows) (λ i j less. inr (refl, omega arith)) (Ordered-range 0 rows)

low_order : (p : Position) → Ordered (ByTwo SquarePrecedes SquarePrecedes) (low_columns p)
low_order p = Ordered-beside SquarePrecedes SquarePrecedes (λ bottom. filter (is_low_column bottom) (squares_in_column p.rows bottom.0)) (squares_at p)
    (squares_in_order (board_of p))
    (λ bottom. Ordered-filter SquarePrecedes (is_low_column bottom) (squares_in_column p.rows bottom.0) (column_order p.rows bottom.0))

pairs_order : (p : Position) → Ordered (ByTwo SquarePrecedes SquarePrecedes) (each_with (playable_squares p) (playable_squares p))
pairs_order p = Ordered-each SquarePrecedes SquarePrecedes (playable_squares p) (playable_squares p) (playable_order p) (playable_order p)

candidates_order : (kind : Kind) (p : Position) → Ordered Precedes (candidates kind p)
candidates_order kinds.Claimeven p = Ordered-map SquarePrecedes Precedes claimeven (squares_at p) (λ a b less. less) (squares_in_order (board_of p))
candidates_order kinds.Baseinverse p = Ordered-map (ByTwo SquarePrecedes SquarePrecedes) Precedes (λ two. baseinverse two.0 two.1)
    (each_with (playable_squares p) (playable_squares p)) (λ a b less. less) (pairs_order p)
candidates_order kinds.Lowinverse p = Ordered-map (ByTwo (ByTwo SquarePrecedes SquarePrecedes) (ByTwo SquarePrecedes SquarePrecedes)) Precedes
    (λ two. lowinverse two.0.0 two.0.1 two.1.0 two.1.1)
    (each_with (low_columns p) (low_columns p)) (λ a b less. less)
    (Ordered-each (ByTwo SquarePrecedes SquarePrecedes) (ByTwo SquarePrecedes SquarePrecedes) (low_columns p) (low_columns p) (low_order p) (low_order p))
candidates_order kinds.Highinverse p = Ordered-map (ByTwo SquarePrecedes SquarePrecedes) Precedes (λ two. highinverse two.0 two.1)
    (each_with (squares_at p) (squares_at p)) (λ a b less. less)
    (Ordered-each SquarePrecedes SquarePrecedes (squares_at p) (squares_at p) (squares_in_order (board_of p)) (squares_in_order (board_of p)))
candidates_order kinds.Baseclaim p = Ordered-map (ByTwo SquarePrecedes (ByTwo SquarePrecedes SquarePrecedes)) Precedes
    (λ three. baseclaim three.0 three.1.0 three.1.1)
    (each_with (playable_squares p) (each_with (playable_squares p) (playable_squares p))) (λ a b less. less)
    (Ordered-each SquarePrecedes (ByTwo SquarePrecedes SquarePrecedes) (playable_squares p) (each_with (playable_squares p) (playable_squares p))
    (playable_order p) (pairs_order p))
candidates_order kinds.Vertical p = Ordered-map SquarePrecedes Precedes vertical (squares_at p) (λ a b less. less) (squares_in_order (board_of p))
candidates_order kinds.Aftereven p = Ordered-map GroupPrecedes Precedes aftereven (groups_of (board_of p)) (λ a b less. less) (groups_in_order (board_of p))
candidates_order kinds.Before p = Ordered-map GroupPrecedes Precedes before (groups_of (board_of p)) (λ a b less. less) (groups_in_order (board_of p))
candidates_order kinds.Specialbefore p = Ordered-map (ByTwo GroupPrecedes (ByTwo SquarePrecedes SquarePrecedes)) Precedes
    (λ three. specialbefore three.0 three.1.0 three.1.1)
    (each_with (groups_of (board_of p)) (each_with (playable_squares p) (playable_squares p))) (λ a b less. less)
    (Ordered-each GroupPrecedes (ByTwo SquarePrecedes SquarePrecedes) (groups_of (board_of p)) (each_with (playable_squares p) (playable_squares p))
    (groups_in_order (board_of p)) (pairs_order p))

pub listed_order : (kind : Kind) (p : Position) → Ordered Precedes (listed kind p)
listed_order kind p = Ordered-filter Precedes (λ w. fits w p) (candidates kind p) (candidates_order kind p)
