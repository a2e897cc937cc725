-- The table of instances that may stand together: it is the same in both orders, zones that stand together share no
-- square, and an inverse over two floors rests on one Baseinverse.
use Rattle.std.proofs.Common.{◌≡◌, ◌+◌, ◌-◌, ◌<◌, ◌≤◌, true, false, not, ◌||◌, ◌==◌, List, [], ◌∷◌, Some, refl, sym, ap, subst, inl, inr, arith}
use Rattle.std.specs.List.{list_all}
use Rattle.std.proofs.lemmas.Bool.{both_ways, and_parts, and_from, or_cases, or_left, or_right, ltb-true, eqb-true, eq-eqb, not-true, not_from_false}
use Rattle.std.proofs.lemmas.Bool.{false_from_ne_true}
use Rattle.game_rules.specs.Board.{Square}
use Rattle.game_rules.specs.Position.{Position}
use Rattle.game_rules.specs.Squares.{has_square}
use Rattle.game_rules.specs.Groups.{Group}
use Rattle.game_rules.proofs.Lists.{Among, all_gives, all_from}
use Rattle.game_rules.proofs.Squares.{same_square_is, has_gives, has_from}
use Rattle.plan_rules.specs.Squares.{above, under}
use Rattle.plan_rules.specs.Rules.{RuleInstance, claimeven, baseinverse, lowinverse, highinverse, baseclaim, vertical, aftereven, before, specialbefore}
use Rattle.plan_rules.specs.Rules.{zone_of, black_group_of, owns_no_zone, no_shared_square, no_shared_column, is_over, rests_on, stands_over, together}
use Rattle.plan_rules.specs.Calm.{is_calm}

pub zoneless_owns_none : (w : RuleInstance) → owns_no_zone w ≡ true → (u : Square) → has_square (zone_of w) u ≡ true → ⊥
zoneless_owns_none (claimeven x) standing u owned = cc
zoneless_owns_none (baseinverse s t) standing u owned = cc
zoneless_owns_none (lowinverse x x_top y y_top) standing u owned = cc
zoneless_owns_none (highinverse x y) standing u owned = cc
zoneless_owns_none (baseclaim a b e) standing u owned = cc
zoneless_owns_none (vertical e) standing u owned = cc
zoneless_owns_none (aftereven g) standing u owned = cc
zoneless_owns_none (before g) standing u owned = cc
zoneless_owns_none (specialbefore g f e0) standing u owned = cc

-- a rule with a line of Black's is always calm
pub always_calm : (w : RuleInstance) (g : Group) → black_group_of w ≡ Some g → (q : Position) → is_calm w q ≡ true
always_calm (claimeven x) g line q = absurd (cc line)
always_calm (baseinverse s t) g line q = absurd (cc line)
always_calm (lowinverse x x_top y y_top) g line q = absurd (cc line)
always_calm (highinverse x y) g line q = absurd (cc line)
always_calm (baseclaim a b e) g line q = absurd (cc line)
always_calm (vertical e) g line q = refl
always_calm (aftereven h) g line q = refl
always_calm (before h) g line q = refl
always_calm (specialbefore h f e0) g line q = refl

-- ---- sets that share no square or column

pub no_shared : (us vs : List Square) (u : Square) → no_shared_square us vs ≡ true → has_square us u ≡ true → has_square vs u ≡ true → ⊥
no_shared us vs u none left right = both_ways (has_square vs u) (not-true _ (all_gives (λ u. not (has_square vs u)) us u none (has_gives us u left))) right

no_shared_sym : (us vs : List Square) → no_shared_square us vs ≡ true → no_shared_square vs us ≡ true
no_shared_sym us vs none = all_from (λ v. not (has_square us v)) vs
    (λ v among. not_from_false _ (false_from_ne_true _ (λ left. no_shared us vs v none left (has_from vs v among))))

pub no_column : (us vs : List Square) (u v : Square) → no_shared_column us vs ≡ true → has_square us u ≡ true → has_square vs v ≡ true → u.0 ≡ v.0 → ⊥
no_column us vs u v none left right same =
    let of_u = all_gives (λ u. list_all (λ v. not (u.0 == v.0)) vs) us u none (has_gives us u left) in
    let of_v = all_gives (λ v. not (u.0 == v.0)) vs v of_u (has_gives vs v right) in
    both_ways (u.0 == v.0) (not-true _ of_v) (eq-eqb u.0 v.0 same)

no_column_sym : (us vs : List Square) → no_shared_column us vs ≡ true → no_shared_column vs us ≡ true
no_column_sym us vs none =
    all_from (λ v. list_all (λ u. not (v.0 == u.0)) us) vs (λ v right. all_from (λ u. not (v.0 == u.0)) us (λ u left.
    not_from_false _ (false_from_ne_true _ (λ same. no_column us vs u v none (has_from us u left) (has_from vs v right) (sym (eqb-true v.0 u.0 same))))))

-- ---- the table

-- two that stand together: one is standing, or they share no square, and where they share a column one is over the other
pub data Apart (v w : RuleInstance) : Type 0 where
  left_zoneless : owns_no_zone v ≡ true → Apart v w
  right_zoneless : owns_no_zone w ≡ true → Apart v w
  columns_apart : no_shared_square (zone_of v) (zone_of w) ≡ true → no_shared_column (zone_of v) (zone_of w) ≡ true → Apart v w
  left_over : no_shared_square (zone_of v) (zone_of w) ≡ true → stands_over v w ≡ true → Apart v w
  right_over : no_shared_square (zone_of v) (zone_of w) ≡ true → stands_over w v ≡ true → Apart v w

pub apart_gives : (v w : RuleInstance) → together v w ≡ true → Apart v w
apart_gives v w h = elim (or_cases _ _ h) [
  | inl standing ↦ elim (or_cases _ _ standing) [ inl left ↦ left_zoneless left | inr right ↦ right_zoneless right ]
  | inr zones ↦ let both = and_parts _ _ zones in elim (or_cases _ _ both.1) [
    | inl left ↦ elim (or_cases _ _ left) [ inl columns ↦ columns_apart both.0 columns | inr over ↦ left_over both.0 over ]
    | inr right ↦ right_over both.0 right
  ]
]

pub apart_from : (v w : RuleInstance) → Apart v w → together v w ≡ true
apart_from v w (left_zoneless h) = or_left _ _ (or_left _ _ h)
apart_from v w (right_zoneless h) = or_left _ _ (or_right _ _ h)
apart_from v w (columns_apart squares h) = or_right _ _ (and_from _ _ squares (or_left _ _ (or_left _ _ h)))
apart_from v w (left_over squares h) = or_right _ _ (and_from _ _ squares (or_left _ _ (or_right _ _ h)))
apart_from v w (right_over squares h) = or_right _ _ (and_from _ _ squares (or_right _ _ h))

pub together_sym : (v w : RuleInstance) → together v w ≡ true → together w v ≡ true
together_sym v w h = turned (apart_gives v w h)
  where
    turned : Apart v w → together w v ≡ true
    turned (left_zoneless h) = apart_from w v (right_zoneless h)
    turned (right_zoneless h) = apart_from w v (left_zoneless h)
    turned (columns_apart squares h) = apart_from w v (columns_apart (no_shared_sym (zone_of v) (zone_of w) squares) (no_column_sym (zone_of v) (zone_of w) h))
    turned (left_over squares h) = apart_from w v (right_over (no_shared_sym (zone_of v) (zone_of w) squares) h)
    turned (right_over squares h) = apart_from w v (left_over (no_shared_sym (zone_of v) (zone_of w) squares) h)

pub zones_apart : (v w : RuleInstance) (u : Square) → together v w ≡ true → has_square (zone_of v) u ≡ true → has_square (zone_of w) u ≡ true → ⊥
zones_apart v w u h left right = by_case (apart_gives v w h)
  where
    by_case : Apart v w → ⊥
    by_case (left_zoneless h) = zoneless_owns_none v h u left
    by_case (right_zoneless h) = zoneless_owns_none w h u right
    by_case (columns_apart squares h) = no_shared (zone_of v) (zone_of w) u squares left right
    by_case (left_over squares h) = no_shared (zone_of v) (zone_of w) u squares left right
    by_case (right_over squares h) = no_shared (zone_of v) (zone_of w) u squares left right

-- ---- what an inverse rests on

-- the Baseinverse whose squares lie directly below the two bottoms
pub record RestsOn (x y : Square) (v : RuleInstance) : Type 0 where
  pub s : Square
  pub t : Square
  pub is_inverse : v ≡ baseinverse s t
  pub below_x : above s ≡ x
  pub below_y : above t ≡ y

pub rests_gives : (x y : Square) (v : RuleInstance) → rests_on x y v ≡ true → RestsOn x y v
rests_gives x y (claimeven z) h = absurd (cc h)
rests_gives x y (baseinverse s t) h = let both = and_parts _ _ h in
    record { s = s; t = t; is_inverse = refl; below_x = same_square_is (above s) x both.0; below_y = same_square_is (above t) y both.1 }
rests_gives x y (lowinverse u u_top v v_top) h = absurd (cc h)
rests_gives x y (highinverse u v) h = absurd (cc h)
rests_gives x y (baseclaim a b e) h = absurd (cc h)
rests_gives x y (vertical e) h = absurd (cc h)
rests_gives x y (aftereven g) h = absurd (cc h)
rests_gives x y (before g) h = absurd (cc h)
rests_gives x y (specialbefore g f e0) h = absurd (cc h)

-- over an inverse nothing stands but a Claimeven, and that is above each of its squares
over_gives : (v w : RuleInstance) → ((a b : Square) → rests_on a b w ≡ false) → stands_over v w ≡ true
    → (z : Square) × (v ≡ claimeven z) × (is_over z (zone_of w) ≡ true)
over_gives (claimeven z) w none h = (z, refl, h)
over_gives (baseinverse s t) w none h = absurd (cc h)
over_gives (lowinverse u u_top v v_top) w none h = absurd (both_ways (rests_on u v w) (none u v) h)
over_gives (highinverse u v) w none h = absurd (both_ways (rests_on u v w) (none u v) h)
over_gives (baseclaim a b e) w none h = absurd (cc h)
over_gives (vertical e) w none h = absurd (cc h)
over_gives (aftereven g) w none h = absurd (cc h)
over_gives (before g) w none h = absurd (cc h)
over_gives (specialbefore g f e0) w none h = absurd (cc h)

-- whoever owns the square below one bottom of an inverse is the Baseinverse that it rests on
pub floor_owner : (x y u : Square) (w v : RuleInstance) → owns_no_zone w ≡ false → ((a b : Square) → rests_on a b w ≡ false)
    → (stands_over w v ≡ true → rests_on x y v ≡ true)
    → has_square (zone_of w) u ≡ true → 1 ≤ u.1 → together v w ≡ true → has_square (zone_of v) (under u) ≡ true → RestsOn x y v
floor_owner x y u w v moving none over owned low h below = by_case (apart_gives v w h)
  where
    -- a Claimeven that owns the square below isn't above it
    no_claimeven : (z : Square) → is_over z (zone_of w) ≡ true → Among (under u) (z ∷ above z ∷ []) → ⊥
    no_claimeven z h among =
        let at_u = all_gives (λ u. not (z.0 == u.0) || _) (zone_of w) u h (has_gives (zone_of w) u owned) in
        elim (or_cases _ _ at_u) [
          | inl column ↦ both_ways (z.0 == u.0) (not-true _ column) (eq-eqb z.0 u.0 (elim among [
            | inl here ↦ ap (λ (s : Square). s.0) here
            | inr more ↦ elim more [ inl here ↦ ap (λ (s : Square). s.0) here | inr more ↦ absurd more ]
          ]))
          | inr row ↦ let high : u.1 < z.1 = ltb-true u.1 z.1 row in elim among [
            | inl here ↦ let same : z.1 ≡ u.1 - 1 = ap (λ (s : Square). s.1) here in omega arith
            | inr more ↦ elim more [
              | inl here ↦ let same : z.1 + 1 ≡ u.1 - 1 = ap (λ (s : Square). s.1) here in omega arith
              | inr more ↦ more
            ]
          ]
        ]

    by_case : Apart v w → RestsOn x y v
    by_case (left_zoneless h) = absurd (zoneless_owns_none v h (under u) below)
    by_case (right_zoneless h) = absurd (both_ways (owns_no_zone w) moving h)
    by_case (columns_apart squares h) = absurd (no_column (zone_of v) (zone_of w) (under u) u h below owned refl)
    by_case (left_over squares h) =
        let z = over_gives v w none h in
        absurd (no_claimeven z.0 z.2 (has_gives (zone_of (claimeven z.0)) (under u) (subst (λ w. has_square (zone_of w) (under u) ≡ true) z.1 below)))
    by_case (right_over squares h) = rests_gives x y v (over h)
