-- What the lists of fitting instances have: zone instances in one, and standing instances in the other.
use Rattle.std.proofs.Common.{◌≡◌, Bool, true, false, not, List, ◌++◌, refl, ap, ◌∙◌, inl, inr}
use Rattle.game_rules.specs.Position.{Position}
use Rattle.game_rules.proofs.Lists.{Among, Among-append_cases}
use Rattle.plan_rules.specs.Rules.{RuleInstance, claimeven, baseinverse, lowinverse, highinverse, baseclaim, vertical, aftereven, before, specialbefore}
use Rattle.plan_rules.specs.Rules.{kind_of, owns_no_zone, fits}
use Rattle.plan_rules.specs.Listing.{listed}
use Rattle.plan_rules.specs.Zones.{owns_zone}
use Rattle.plan_rules.specs.declared.Kind.{Kind}
use Rattle.plan_rules.specs.declared.Kind.TheVariants as kinds
use Rattle.plan_rules.proofs.Listed.{listed_fits}
use Rattle.walk_rules.specs.Walk.{fitting_zones, fitting_standing}

abbrev is_standing_kind : Kind → Bool
is_standing_kind kinds.Vertical = true
is_standing_kind kinds.Aftereven = true
is_standing_kind kinds.Before = true
is_standing_kind kinds.Specialbefore = true
is_standing_kind kind = false

standing_by_kind : (w : RuleInstance) → owns_no_zone w ≡ is_standing_kind (kind_of w)
standing_by_kind (claimeven x) = refl
standing_by_kind (baseinverse s t) = refl
standing_by_kind (lowinverse x x_top y y_top) = refl
standing_by_kind (highinverse x y) = refl
standing_by_kind (baseclaim a b e) = refl
standing_by_kind (vertical e) = refl
standing_by_kind (aftereven g) = refl
standing_by_kind (before g) = refl
standing_by_kind (specialbefore g f e0) = refl

by_kind : (p : Position) (w : RuleInstance) (kind : Kind) → Among w (listed kind p) → (owns_no_zone w ≡ is_standing_kind kind) × (fits w p ≡ true)
by_kind p w kind among = let both = listed_fits kind p w among in (standing_by_kind w ∙ ap is_standing_kind both.0, both.1)

in_either : {P : Type 0} (w : RuleInstance) (vs ws : List RuleInstance) → (Among w vs → P) → (Among w ws → P) → Among w (vs ++ ws) → P
in_either w vs ws left right among = elim (Among-append_cases w vs ws among) [ inl h ↦ left h | inr h ↦ right h ]

-- a standing instance of the list owns no zone, and fits
pub standing_fits : (p : Position) (w : RuleInstance) → Among w (fitting_standing p) → (owns_no_zone w ≡ true) × (fits w p ≡ true)
standing_fits p w =
    in_either w ((listed kinds.Vertical p ++ listed kinds.Aftereven p) ++ listed kinds.Before p) (listed kinds.Specialbefore p)
    (in_either w (listed kinds.Vertical p ++ listed kinds.Aftereven p) (listed kinds.Before p)
    (in_either w (listed kinds.Vertical p) (listed kinds.Aftereven p) (by_kind p w kinds.Vertical) (by_kind p w kinds.Aftereven))
    (by_kind p w kinds.Before))
    (by_kind p w kinds.Specialbefore)

-- a zone instance of the list owns a zone, and fits
pub zone_fits : (p : Position) (w : RuleInstance) → Among w (fitting_zones p) → (owns_zone w ≡ true) × (fits w p ≡ true)
zone_fits p w =
    in_either w (((listed kinds.Claimeven p ++ listed kinds.Baseinverse p) ++ listed kinds.Lowinverse p) ++ listed kinds.Highinverse p)
    (listed kinds.Baseclaim p)
    (in_either w ((listed kinds.Claimeven p ++ listed kinds.Baseinverse p) ++ listed kinds.Lowinverse p) (listed kinds.Highinverse p)
    (in_either w (listed kinds.Claimeven p ++ listed kinds.Baseinverse p) (listed kinds.Lowinverse p)
    (in_either w (listed kinds.Claimeven p) (listed kinds.Baseinverse p) (owned kinds.Claimeven refl) (owned kinds.Baseinverse refl))
    (owned kinds.Lowinverse refl))
    (owned kinds.Highinverse refl))
    (owned kinds.Baseclaim refl)
  where
    owned : (kind : Kind) → is_standing_kind kind ≡ false → Among w (listed kind p) → (owns_zone w ≡ true) × (fits w p ≡ true)
    owned kind moves among = let both = by_kind p w kind among in (ap not (both.0 ∙ moves), both.1)
