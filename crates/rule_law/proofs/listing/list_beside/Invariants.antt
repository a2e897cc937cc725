use Rattle.std.proofs.Common.{◌≡◌, ◌++◌, take}
use Rattle.std.specs.List.{flat_map}
use Rattle.plan_rules.specs.Listing.{if_fits}
use Rattle.rule_law.proofs.listing.list_beside.Given as goal

abbrev pub invariant-loop-second : goal.invariant-loop-second
invariant-loop-second g l =
    (g.T.Taker.taken l.taker ≡ g.T.Taker.taken l.initial.taker ++ flat_map (λ second. if_fits l.p (g.R.Listed.written (l.first, second)))
    (take l.second-index l.seconds))
    × (g.T.Taker.room l.taker ≡ g.T.Taker.room l.initial.taker)
