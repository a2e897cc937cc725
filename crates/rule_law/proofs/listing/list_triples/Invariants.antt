use Rattle.std.proofs.Common.{◌≡◌, ◌++◌, take}
use Rattle.std.specs.List.{flat_map}
use Rattle.plan_rules.specs.Listing.{fitting, each_with}
use Rattle.rule_law.proofs.listing.list_triples.Given as goal

abbrev pub invariant-loop-first : goal.invariant-loop-first
invariant-loop-first g l =
    (g.T.Taker.taken l.taker ≡ g.T.Taker.taken l.initial.taker
    ++ flat_map (λ first. fitting (λ two. g.R.Listed.written (first, two)) l.p (each_with l.seconds l.thirds)) (take l.first-index l.firsts))
    × (g.T.Taker.room l.taker ≡ g.T.Taker.room l.initial.taker)
