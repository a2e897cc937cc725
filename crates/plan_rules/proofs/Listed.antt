-- What fits is listed among those of its kind, and what is listed fits.
use Rattle.std.proofs.Common.{◌≡◌, zero, suc, add-one, true, ◌&&◌, nat_lt, nat_le, ◌+◌, ◌-◌, ◌≤◌, ◌==◌, List, map, filter, refl, sym, ap, ◌∙◌, subst, inl, inr}
use Rattle.std.proofs.Common.{arith}
use Rattle.std.proofs.lemmas.Bool.{and_parts, and_from, eqb-true, leb-true}
use Rattle.game_rules.specs.Board.{Board, Square, below, on_board}
use Rattle.game_rules.specs.Position.{Position, board_of}
use Rattle.game_rules.specs.Squares.{same_square, squares_in_column, is_playable}
use Rattle.game_rules.specs.Groups.{Group, same_group, lies_on, groups_of}
use Rattle.game_rules.proofs.Lists.{Among, Among-map, Among-map_gives, Among-filter, Among-filter_gives, Among-below, Among-flat_map, Among-append_left}
use Rattle.game_rules.proofs.Lists.{Among-append_right, any_gives, any_from, all_gives}
use Rattle.game_rules.proofs.Ends.{on_board_parts}
use Rattle.game_rules.proofs.Squares.{same_square_refl, same_square_is, has_gives, has_on_board}
use Rattle.game_rules.proofs.Groups.{same_group_refl, same_group_is, group_gives, has_group_of}
use Rattle.plan_rules.specs.Squares.{above, is_even, span}
use Rattle.plan_rules.specs.Rules.{RuleInstance, claimeven, baseinverse, lowinverse, highinverse, baseclaim, vertical, aftereven, before, specialbefore}
use Rattle.plan_rules.specs.Rules.{kind_of, zone_of, is_low_column, is_open_line, is_low_line, fits}
use Rattle.plan_rules.proofs.Lines.{open_lies}
use Rattle.plan_rules.proofs.Squares.{column_from}
use Rattle.plan_rules.proofs.Grounds.{fits_shape, fits_on_board, fits_more}
use Rattle.plan_rules.specs.declared.Kind.{Kind}
use Rattle.plan_rules.specs.declared.Kind.TheVariants as kinds
use Rattle.plan_rules.specs.Listing.{squares_at, playable_squares, tops_over, low_columns, each_with, candidates, listed, same_instance, has_instance}

-- ---- the same instance

same_instance_is : (v w : RuleInstance) → same_instance v w ≡ true → v ≡ w
same_instance_is (claimeven x) (claimeven u) h = ap claimeven (same_square_is x u h)
same_instance_is (baseinverse s t) (baseinverse u v) h = let both = and_parts (same_square s u) (same_square t v) h in let first = same_square_is s u both.0 in
    let second = same_square_is t v both.1 in cc
same_instance_is (lowinverse x x_top y y_top) (lowinverse u u_top v v_top) h =
    let all = and_parts (same_square x u && same_square x_top u_top && same_square y v) (same_square y_top v_top) h in
    let three = and_parts (same_square x u && same_square x_top u_top) (same_square y v) all.0 in
    let two = and_parts (same_square x u) (same_square x_top u_top) three.0 in
    let first = same_square_is x u two.0 in let second = same_square_is x_top u_top two.1 in
    let third = same_square_is y v three.1 in let fourth = same_square_is y_top v_top all.1 in cc
same_instance_is (highinverse x y) (highinverse u v) h = let both = and_parts (same_square x u) (same_square y v) h in let first = same_square_is x u both.0 in
    let second = same_square_is y v both.1 in cc
same_instance_is (baseclaim a b e) (baseclaim u v w) h =
    let all = and_parts (same_square a u && same_square b v) (same_square e w) h in
    let two = and_parts (same_square a u) (same_square b v) all.0 in
    let first = same_square_is a u two.0 in let second = same_square_is b v two.1 in let third = same_square_is e w all.1 in cc
same_instance_is (vertical e) (vertical u) h = ap vertical (same_square_is e u h)
same_instance_is (aftereven g) (aftereven h) same = ap aftereven (same_group_is g h same)
same_instance_is (before g) (before h) same = ap before (same_group_is g h same)
same_instance_is (specialbefore g f e0) (specialbefore h u v) same =
    let all = and_parts (same_group g h && same_square f u) (same_square e0 v) same in
    let two = and_parts (same_group g h) (same_square f u) all.0 in
    let first = same_group_is g h two.0 in let second = same_square_is f u two.1 in let third = same_square_is e0 v all.1 in cc
same_instance_is v w h = cc

same_instance_refl : (w : RuleInstance) → same_instance w w ≡ true
same_instance_refl (claimeven x) = same_square_refl x
same_instance_refl (baseinverse s t) = and_from _ _ (same_square_refl s) (same_square_refl t)
same_instance_refl (lowinverse x x_top y y_top) = and_from _ _ (and_from _ _ (and_from _ _ (same_square_refl x) (same_square_refl x_top)) (same_square_refl y))
    (same_square_refl y_top)
same_instance_refl (highinverse x y) = and_from _ _ (same_square_refl x) (same_square_refl y)
same_instance_refl (baseclaim a b e) = and_from _ _ (and_from _ _ (same_square_refl a) (same_square_refl b)) (same_square_refl e)
same_instance_refl (vertical e) = same_square_refl e
same_instance_refl (aftereven g) = same_group_refl g
same_instance_refl (before g) = same_group_refl g
same_instance_refl (specialbefore g f e0) = and_from _ _ (and_from _ _ (same_group_refl g) (same_square_refl f)) (same_square_refl e0)

pub instance_gives : (ws : List RuleInstance) (w : RuleInstance) → has_instance ws w ≡ true → Among w ws
instance_gives ws w h = let found = any_gives (same_instance w) ws h in subst (λ v. Among v ws) (sym (same_instance_is w found.0 found.2)) found.1

pub instance_from : (ws : List RuleInstance) (w : RuleInstance) → Among w ws → has_instance ws w ≡ true
instance_from ws w among = any_from (same_instance w) ws w among (same_instance_refl w)

-- ---- what instances are written with

-- a square of the board, and a playable one
at_square : (p : Position) (u : Square) → on_board (board_of p) u ≡ true → Among u (squares_at p)
at_square p u on = has_gives (squares_at p) u (has_on_board (board_of p) u ∙ on)

at_playable : (p : Position) (u : Square) → is_playable p u ≡ true → Among u (playable_squares p)
at_playable p u h = Among-filter (is_playable p) (squares_at p) u (at_square p u (and_parts (on_board (board_of p) u) _ h).0) h

at_group : (p : Position) (g : Group) → lies_on (board_of p) g ≡ true → Among g (groups_of (board_of p))
at_group p g on = group_gives (groups_of (board_of p)) g (has_group_of (board_of p) g ∙ on)

pub Among-each : {X Y : Type 0} (xs : List X) (ys : List Y) (x : X) (y : Y) → Among x xs → Among y ys → Among (x, y) (each_with xs ys)
Among-each xs ys x y first second = Among-flat_map (λ x. map (λ y. (x, y)) ys) xs x (x, y) first (Among-map (λ y. (x, y)) ys y second)

-- ---- what fits is a candidate

-- the squares of the zone stand on the board
zone_on : (w : RuleInstance) (p : Position) (u : Square) → fits w p ≡ true → Among u (zone_of w) → on_board (board_of p) u ≡ true
zone_on w p u h among = all_gives (on_board (board_of p)) (zone_of w) u (fits_on_board w p h) among

zone_square : (w : RuleInstance) (p : Position) (u : Square) → fits w p ≡ true → Among u (zone_of w) → Among u (squares_at p)
zone_square w p u h among = at_square p u (zone_on w p u h among)

-- the column is one, and its top is two squares above its bottom at least
low_parts : (bottom top : Square) → is_low_column bottom top ≡ true → (bottom.0 ≡ top.0) × (bottom.1 + 2 ≤ top.1)
low_parts bottom top h =
    let all = and_parts ((bottom.0 == top.0) && is_even bottom.1 && is_even top.1) (nat_le (bottom.1 + 2) top.1) h in
    let front = and_parts ((bottom.0 == top.0) && is_even bottom.1) (is_even top.1) all.0 in
    (eqb-true bottom.0 top.0 (and_parts (bottom.0 == top.0) (is_even bottom.1) front.0).0, leb-true (bottom.1 + 2) top.1 all.1)

-- both ends of a span are squares of it
span_ends : (bottom top : Square) → is_low_column bottom top ≡ true → Among bottom (span bottom top) × Among top (span bottom top)
span_ends bottom top h =
    let parts = low_parts bottom top h in
    let low : bottom.1 + 2 ≤ top.1 = parts.1 in (
      subst (λ (u : Square). Among u (span bottom top)) (ap (λ r. (bottom.0, r)) (omega arith)) (column_from bottom (top.1 + 1 - bottom.1) 0 (omega arith)),
      subst (λ (u : Square). Among u (span bottom top)) (ap (λ r. (bottom.0, r)) (omega arith) ∙ ap (λ c. (c, top.1)) parts.0)
          (column_from bottom (top.1 + 1 - bottom.1) (top.1 - bottom.1) (omega arith)),
    )

-- a square of the board is one of its column
in_column : (b : Board) (u : Square) → on_board b u ≡ true → Among u (squares_in_column b.rows u.0)
in_column b (c, zero) h = absurd (let parts = on_board_parts b c 0 h in omega arith)
in_column b (c, suc i) h =
    let parts = on_board_parts b c (suc i) h in
    subst (λ n. Among (c, n) (squares_in_column b.rows c)) (add-one i) (Among-map (λ i. (c, i + 1)) (below b.rows) i (Among-below b.rows i (omega arith)))

-- the bottom and the top of a Lowinverse's column
low_column : (p : Position) (bottom top : Square) → on_board (board_of p) bottom ≡ true → on_board (board_of p) top ≡ true → is_low_column bottom top ≡ true
    → Among (bottom, top) (low_columns p)
low_column p bottom top on top_on h =
    let over : Among top (squares_in_column p.rows bottom.0)
    = subst (λ c. Among top (squares_in_column p.rows c)) (sym (low_parts bottom top h).0) (in_column (board_of p) top top_on) in
    Among-flat_map (tops_over p) (squares_at p) bottom (bottom, top) (at_square p bottom on)
    (Among-map (λ top. (bottom, top)) (filter (is_low_column bottom) (squares_in_column p.rows bottom.0)) top
    (Among-filter (is_low_column bottom) (squares_in_column p.rows bottom.0) top over h))

fits_candidate : (w : RuleInstance) (p : Position) → fits w p ≡ true → Among w (candidates (kind_of w) p)
fits_candidate (claimeven x) p h = Among-map claimeven (squares_at p) x (zone_square (claimeven x) p x h (inl refl))
fits_candidate (baseinverse s t) p h =
    let both = and_parts (is_playable p s) (is_playable p t) (fits_more (baseinverse s t) p h) in
    Among-map (λ two. baseinverse two.0 two.1) (each_with (playable_squares p) (playable_squares p)) (s, t)
    (Among-each (playable_squares p) (playable_squares p) s t (at_playable p s both.0) (at_playable p t both.1))
fits_candidate (lowinverse x x_top y y_top) p h =
    let w = lowinverse x x_top y y_top in
    let shape = and_parts (nat_lt x.0 y.0 && is_low_column x x_top) (is_low_column y y_top) (fits_shape w p h) in
    let front = and_parts (nat_lt x.0 y.0) (is_low_column x x_top) shape.0 in
    let left : (u : Square) → Among u (span x x_top)
    → on_board (board_of p) u ≡ true = λ u among. zone_on w p u h (Among-append_left u (span x x_top) (span y y_top) among) in
    let right : (u : Square) → Among u (span y y_top)
    → on_board (board_of p) u ≡ true = λ u among. zone_on w p u h (Among-append_right u (span x x_top) (span y y_top) among) in
    Among-map (λ two. lowinverse two.0.0 two.0.1 two.1.0 two.1.1) (each_with (low_columns p) (low_columns p)) ((x, x_top), (y, y_top))
    (Among-each (low_columns p) (low_columns p) (x, x_top) (y, y_top)
    (low_column p x x_top (left x (span_ends x x_top front.1).0) (left x_top (span_ends x x_top front.1).1) front.1)
    (low_column p y y_top (right y (span_ends y y_top shape.1).0) (right y_top (span_ends y y_top shape.1).1) shape.1))
fits_candidate (highinverse x y) p h =
    Among-map (λ two. highinverse two.0 two.1) (each_with (squares_at p) (squares_at p)) (x, y)
    (Among-each (squares_at p) (squares_at p) x y (zone_square (highinverse x y) p x h (inl refl))
    (zone_square (highinverse x y) p y h (inr (inr (inr (inl refl))))))
fits_candidate (baseclaim a b e) p h =
    let all = and_parts (is_playable p a && is_playable p b) (is_playable p e) (fits_more (baseclaim a b e) p h) in
    let two = and_parts (is_playable p a) (is_playable p b) all.0 in
    let squares = playable_squares p in
    Among-map (λ three. baseclaim three.0 three.1.0 three.1.1) (each_with squares (each_with squares squares)) (a, (b, e))
    (Among-each squares (each_with squares squares) a (b, e) (at_playable p a two.0)
    (Among-each squares squares b e (at_playable p b two.1) (at_playable p e all.1)))
fits_candidate (vertical e) p h =
    let shape = and_parts (on_board (board_of p) e && on_board (board_of p) (above e)) (is_even e.1) (fits_shape (vertical e) p h) in
    Among-map vertical (squares_at p) e (at_square p e (and_parts (on_board (board_of p) e) (on_board (board_of p) (above e)) shape.0).0)
fits_candidate (aftereven g) p h = Among-map aftereven (groups_of (board_of p)) g (at_group p g (open_lies p g (fits_more (aftereven g) p h)))
fits_candidate (before g) p h = Among-map before (groups_of (board_of p)) g
    (at_group p g (open_lies p g (and_parts (is_open_line p g) _ (fits_more (before g) p h)).0))
fits_candidate (specialbefore g f e0) p h =
    let all = and_parts (is_low_line p g && is_playable p f) (is_playable p e0) (fits_more (specialbefore g f e0) p h) in
    let two = and_parts (is_low_line p g) (is_playable p f) all.0 in
    let squares = playable_squares p in
    Among-map (λ three. specialbefore three.0 three.1.0 three.1.1) (each_with (groups_of (board_of p)) (each_with squares squares)) (g, (f, e0))
    (Among-each (groups_of (board_of p)) (each_with squares squares) g (f, e0) (at_group p g (open_lies p g (and_parts (is_open_line p g) _ two.0).0))
    (Among-each squares squares f e0 (at_playable p f two.1) (at_playable p e0 all.1)))

pub fits_listed : (w : RuleInstance) (p : Position) → fits w p ≡ true → Among w (listed (kind_of w) p)
fits_listed w p h = Among-filter (λ w. fits w p) (candidates (kind_of w) p) w (fits_candidate w p h) h

-- ---- what is a candidate is of the kind

candidate_kind : (kind : Kind) (p : Position) (w : RuleInstance) → Among w (candidates kind p) → kind_of w ≡ kind
candidate_kind kinds.Claimeven p w among = sym (ap kind_of (Among-map_gives _ _ w among).2)
candidate_kind kinds.Baseinverse p w among = sym (ap kind_of (Among-map_gives _ _ w among).2)
candidate_kind kinds.Lowinverse p w among = sym (ap kind_of (Among-map_gives _ _ w among).2)
candidate_kind kinds.Highinverse p w among = sym (ap kind_of (Among-map_gives _ _ w among).2)
candidate_kind kinds.Baseclaim p w among = sym (ap kind_of (Among-map_gives _ _ w among).2)
candidate_kind kinds.Vertical p w among = sym (ap kind_of (Among-map_gives _ _ w among).2)
candidate_kind kinds.Aftereven p w among = sym (ap kind_of (Among-map_gives _ _ w among).2)
candidate_kind kinds.Before p w among = sym (ap kind_of (Among-map_gives _ _ w among).2)
candidate_kind kinds.Specialbefore p w among = sym (ap kind_of (Among-map_gives _ _ w among).2)

pub listed_fits : (kind : Kind) (p : Position) (w : RuleInstance) → Among w (listed kind p) → (kind_of w ≡ kind) × (fits w p ≡ true)
listed_fits kind p w among = let both = Among-filter_gives (λ w. fits w p) (candidates kind p) w among in (candidate_kind kind p w both.0, both.1)
