-- A zone bars no set that has none of its squares.
use Rattle.std.proofs.Common.{◌≡◌, ◌+◌, Bool, true, false, ◌&&◌, ◌==◌, nat_le, nat_lt, List, ◌++◌, refl, sym, inl, inr, arith}
use Rattle.std.specs.List.{list_all, list_any}
use Rattle.std.proofs.lemmas.Bool.{and_parts, both_ways, false_from_ne_true, leb-true, eqb-true}
use Rattle.game_rules.specs.Board.{Square, on_board}
use Rattle.game_rules.specs.Position.{Position, board_of}
use Rattle.game_rules.specs.Squares.{is_empty}
use Rattle.game_rules.proofs.Lists.{Among, any_gives, any_from, Among-append_left}
use Rattle.game_rules.proofs.Squares.{has_gives}
use Rattle.plan_rules.specs.Squares.{above, is_even, is_odd, span}
use Rattle.plan_rules.specs.Rules.{RuleInstance, claimeven, baseinverse, lowinverse, highinverse, baseclaim, Facts, zone_of, barred, fits, is_shaped}
use Rattle.plan_rules.specs.Rules.{is_low_column}
use Rattle.plan_rules.specs.Zones.{owns_zone}
use Rattle.plan_rules.proofs.Spans.{span_from}

any_out : {X : Type 0} (test : X → Bool) (xs : List X) (x : X) → list_any test xs ≡ false → Among x xs → test x ≡ false
any_out test xs x none among = false_from_ne_true (test x) (λ h. both_ways (list_any test xs) none (any_from test xs x among h))

none_any : {X : Type 0} (test : X → Bool) (xs : List X) → ((x : X) → Among x xs → test x ≡ false) → list_any test xs ≡ false
none_any test xs fails = false_from_ne_true (list_any test xs)
    (λ h. let found = any_gives test xs h in both_ways (test found.0) (fails found.0 found.1) found.2)

-- a column of squares has its top
top_in : (bottom top : Square) → is_low_column bottom top ≡ true → Among top (span bottom top)
top_in bottom top h =
    let rise = and_parts ((bottom.0 == top.0) && is_even bottom.1 && is_even top.1) (nat_le (bottom.1 + 2) top.1) h in
    let even = and_parts ((bottom.0 == top.0) && is_even bottom.1) (is_even top.1) rise.0 in
    let same = and_parts (bottom.0 == top.0) (is_even bottom.1) even.0 in
    has_gives (span bottom top) top (span_from bottom top top (sym (eqb-true bottom.0 top.0 same.0)) (omega (arith, leb-true (bottom.1 + 2) top.1 rise.1))
    (omega arith))

pub barred_out : (p : Position) (w : RuleInstance) (facts : Facts) (set : Square → Bool) → owns_zone w ≡ true → fits w p ≡ true
    → list_any set (zone_of w) ≡ false → barred w facts set ≡ false
barred_out p (claimeven x) facts set owns fitted none = any_out set (zone_of (claimeven x)) (above x) none (inr (inl refl))
barred_out p (baseinverse s t) facts set owns fitted none = rw (any_out set (zone_of (baseinverse s t)) s none (inl refl)) refl
barred_out p (lowinverse x x_top y y_top) facts set owns fitted none =
    let shaped = (and_parts (is_shaped (lowinverse x x_top y y_top) (board_of p)) _
    (and_parts (is_shaped (lowinverse x x_top y y_top) (board_of p) && list_all (is_empty p) (zone_of (lowinverse x x_top y y_top))) _ fitted).0).0 in
    let shape = (and_parts (list_all (on_board (board_of p)) (zone_of (lowinverse x x_top y y_top)))
    (nat_lt x.0 y.0 && is_low_column x x_top && is_low_column y y_top) shaped).1 in
    let column = (and_parts (nat_lt x.0 y.0) (is_low_column x x_top) (and_parts (nat_lt x.0 y.0 && is_low_column x x_top) (is_low_column y y_top) shape).0).1 in
    let across : list_any (λ u. is_odd u.1 && set u) (span x x_top)
    ≡ false = none_any _ (span x x_top) (λ u among. last (is_odd u.1) (set u) (out u (Among-append_left u (span x x_top) (span y y_top) among))) in
    let tops : set x_top ≡ false = out x_top (Among-append_left x_top (span x x_top) (span y y_top) (top_in x x_top column)) in
    let upwards : list_any (λ u. is_odd u.1 && set u && set (above u)) (span x x_top ++ span y y_top)
    ≡ false = none_any _ (span x x_top ++ span y y_top) (λ u among. middle (is_odd u.1) (set u) (set (above u)) (out u among)) in
    rw (across, tops, upwards) refl
  where
    out : (u : Square) → Among u (span x x_top ++ span y y_top) → set u ≡ false
    out u among = any_out set (span x x_top ++ span y y_top) u none among

    last : (a b : Bool) → b ≡ false → (a && b) ≡ false
    last true b h = h
    last false b h = refl

    middle : (a b d : Bool) → b ≡ false → (a && b && d) ≡ false
    middle true b d h = rw h refl
    middle false b d h = refl
barred_out p (highinverse x y) facts set owns fitted none =
    let out : (u : Square) → Among u (zone_of (highinverse x y)) → set u ≡ false = λ u among. any_out set (zone_of (highinverse x y)) u none among in
    rw (
      out x (inl refl),
      out (above x) (inr (inl refl)),
      out (above (above x)) (inr (inr (inl refl))),
      out y (inr (inr (inr (inl refl)))),
      out (above y) (inr (inr (inr (inr (inl refl))))),
    ) refl
barred_out p (baseclaim a b e) facts set owns fitted none =
    rw (any_out set (zone_of (baseclaim a b e)) a none (inl refl), any_out set (zone_of (baseclaim a b e)) b none (inr (inl refl))) refl
barred_out p w facts set owns fitted none = absurd (cc owns)
