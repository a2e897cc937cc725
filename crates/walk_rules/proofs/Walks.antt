-- Each zone that is added takes an open square at least, so as many zones as squares are open are enough: a set's walk is
-- the set, and then the walks of the sets with one zone more.
use Rattle.std.proofs.Common.{◌≡◌, ℕ, zero, suc, ◌<◌, ◌≤◌, Bool, true, false, not, ◌&&◌, ◌||◌, List, [], ◌∷◌, ◌++◌, length, filter, refl, sym, ap, ◌∙◌, inl}
use Rattle.std.proofs.Common.{arith}
use Rattle.std.specs.List.{list_all, flat_map}
use Rattle.std.proofs.Math.Bool.{or-false}
use Rattle.std.proofs.lemmas.Bool.{and_parts, and_from, false_from_ne_true}
use Rattle.std.proofs.lemmas.List.Folds.{list_any-append}
use Rattle.game_rules.specs.Board.{Square}
use Rattle.game_rules.specs.Position.{Position}
use Rattle.game_rules.specs.Squares.{has_square, is_empty}
use Rattle.game_rules.proofs.Lists.{Among, Among-filter_gives}
use Rattle.plan_rules.specs.Listing.{squares_at}
use Rattle.plan_rules.specs.Rules.{RuleInstance, zone_of, together}
use Rattle.plan_rules.specs.Plan.{has_owner}
use Rattle.plan_rules.specs.Refusal.{is_uncovered}
use Rattle.walk_rules.specs.Walk.{fitting_zones, open_squares, owns_first, may_follow, walk_within, walk_from}
use Rattle.walk_rules.specs.Steps.{after}
use Rattle.walk_rules.proofs.Lists.{flat_map_same, filter_none, filter_less}

-- whether a set with one zone more owns a square
pub owner_more : (set : List RuleInstance) (w : RuleInstance) (u : Square) → has_owner (set ++ w ∷ []) u ≡ (has_owner set u || has_square (zone_of w) u)
owner_more set w u = list_any-append (λ v. has_square (zone_of v) u) set (w ∷ []) ∙ ap (λ b. has_owner set u || b) (or-false (has_square (zone_of w) u))

-- the first open square is the zone's
pub first_owned : (w : RuleInstance) (us : List Square) → owns_first w us ≡ true → (u : Square) × Among u us × (has_square (zone_of w) u ≡ true)
first_owned w [] h = absurd (cc h)
first_owned w (u ∷ us) h = (u, inl refl, h)

-- one zone more leaves fewer squares open
fewer_open : (p : Position) (set : List RuleInstance) (w : RuleInstance) → may_follow p set w ≡ true
    → length (open_squares p (set ++ w ∷ [])) < length (open_squares p set)
fewer_open p set w follows =
    let first = first_owned w (open_squares p set) (and_parts (owns_first w (open_squares p set)) (list_all (λ v. together v w) set) follows).0 in
    let was = Among-filter_gives (is_uncovered p set) (squares_at p) first.0 first.1 in
    filter_less (is_uncovered p (set ++ w ∷ [])) (is_uncovered p set) (squares_at p) first.0 was_open was.0 (closed first.0 first.2) was.1
  where
    none_before : (a b : Bool) → not (a || b) ≡ true → not a ≡ true
    none_before false b h = refl
    none_before true b h = h

    owned_now : (a b : Bool) → b ≡ true → not (a || b) ≡ false
    owned_now false b h = ap not h
    owned_now true b h = refl

    never : (a b : Bool) → b ≡ false → (a && b) ≡ false
    never false b h = refl
    never true b h = h

    was_open : (u : Square) → is_uncovered p (set ++ w ∷ []) u ≡ true → is_uncovered p set u ≡ true
    was_open u h =
        let both = and_parts (is_empty p u) (not (has_owner (set ++ w ∷ []) u)) h in
        and_from (is_empty p u) (not (has_owner set u)) both.0
        (none_before (has_owner set u) (has_square (zone_of w) u) (ap not (sym (owner_more set w u)) ∙ both.1))

    closed : (u : Square) → has_square (zone_of w) u ≡ true → is_uncovered p (set ++ w ∷ []) u ≡ false
    closed u owned =
        never (is_empty p u) (not (has_owner (set ++ w ∷ []) u)) (ap not (owner_more set w u) ∙ owned_now (has_owner set u) (has_square (zone_of w) u) owned)

-- where no square is open no zone may follow
none_follows : (p : Position) (set : List RuleInstance) (w : RuleInstance) → length (open_squares p set) ≤ 0 → may_follow p set w ≡ false
none_follows p set w none = false_from_ne_true (may_follow p set w) (λ follows. let fewer = fewer_open p set w follows in omega arith)

-- as many zones as squares are open are enough
enough : (p : Position) (zones : List RuleInstance) (m n : ℕ) (set : List RuleInstance) → length (open_squares p set) ≤ m → length (open_squares p set) ≤ n
    → walk_within p zones m set ≡ walk_within p zones n set
unfolding walk_within
enough p zones zero zero set low_m low_n = refl
enough p zones zero (suc n) set low_m low_n =
    sym (ap (λ ws. set ∷ flat_map (λ w. walk_within p zones n (set ++ w ∷ [])) ws) (filter_none (may_follow p set) zones (λ w. none_follows p set w low_m)))
enough p zones (suc m) zero set low_m low_n =
    ap (λ ws. set ∷ flat_map (λ w. walk_within p zones m (set ++ w ∷ [])) ws) (filter_none (may_follow p set) zones (λ w. none_follows p set w low_n))
enough p zones (suc m) (suc n) set low_m low_n =
    ap (λ sets. set ∷ sets) (flat_map_same (λ w. walk_within p zones m (set ++ w ∷ [])) (λ w. walk_within p zones n (set ++ w ∷ []))
    (filter (may_follow p set) zones) (λ w among.
    let fewer = fewer_open p set w (Among-filter_gives (may_follow p set) zones w among).1 in
    enough p zones m n (set ++ w ∷ []) (omega (arith, fewer)) (omega (arith, fewer))))

-- a set's walk is the set, and then the walk of each set with one zone more that may follow it
pub walk_step : (p : Position) (set : List RuleInstance) → walk_from p set ≡ set ∷ after p set (fitting_zones p)
unfolding walk_within walk_from
walk_step p set =
    enough p (fitting_zones p) (length (open_squares p set)) (suc (length (open_squares p set))) set (omega arith) (omega arith)
    ∙ ap (λ sets. set ∷ sets) (flat_map_same (λ w. walk_within p (fitting_zones p) (length (open_squares p set)) (set ++ w ∷ []))
    (λ w. walk_from p (set ++ w ∷ [])) (filter (may_follow p set) (fitting_zones p)) (λ w among.
    let fewer = fewer_open p set w (Among-filter_gives (may_follow p set) (fitting_zones p) w among).1 in
    enough p (fitting_zones p) (length (open_squares p set)) (length (open_squares p (set ++ w ∷ []))) (set ++ w ∷ []) (omega (arith, fewer)) (omega arith)))
