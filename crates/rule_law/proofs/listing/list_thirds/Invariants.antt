use Rattle.std.proofs.Common.{◌≡◌, ◌++◌, take}
use Rattle.std.specs.List.{flat_map}
use Rattle.plan_rules.specs.Listing.{if_fits}
use Rattle.rule_law.proofs.listing.list_thirds.Given as goal

abbrev pub invariant-loop-third : goal.invariant-loop-third
invariant-loop-third g l =
    (g.T.Taker.taken l.taker ≡ g.T.Taker.taken l.initial.taker ++ flat_map (λ third. if_fits l.p (g.R.Listed.written (l.first, (l.second, third))))
    (take l.third-index l.thirds))
    × (g.T.Taker.room l.taker ≡ g.T.Taker.room l.initial.taker)
