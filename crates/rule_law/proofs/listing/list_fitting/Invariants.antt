use Rattle.std.proofs.Common.{◌≡◌, ◌++◌, take}
use Rattle.std.specs.List.{flat_map}
use Rattle.plan_rules.specs.Listing.{if_fits}
use Rattle.rule_law.proofs.listing.list_fitting.Given as goal

abbrev pub invariant-loop-site : goal.invariant-loop-site
invariant-loop-site g l =
    (g.T.Taker.taken l.taker ≡ g.T.Taker.taken l.initial.taker ++ flat_map (λ site. if_fits l.p (g.R.Listed.written site)) (take l.site-index l.sites))
    × (g.T.Taker.room l.taker ≡ g.T.Taker.room l.initial.taker)
