use Rattle.std.proofs.Common.{◌≡◌, ◌++◌, take}
use Rattle.std.specs.List.{flat_map}
use Rattle.plan_rules.specs.Listing.{fitting}
use Rattle.rule_law.proofs.listing.list_pairs_beside.Given as goal

abbrev pub invariant-loop-second : goal.invariant-loop-second
invariant-loop-second g l =
    (g.T.Taker.taken l.taker ≡ g.T.Taker.taken l.initial.taker
    ++ flat_map (λ second. fitting (λ third. g.R.Listed.written (l.first, (second, third))) l.p l.thirds) (take l.second-index l.seconds))
    × (g.T.Taker.room l.taker ≡ g.T.Taker.room l.initial.taker)
