use Rattle.std.proofs.Common.{◌≡◌, ◌++◌, take}
use Rattle.std.specs.List.{flat_map}
use Rattle.plan_rules.specs.Listing.{fitting}
use Rattle.rule_law.proofs.listing.list_pairs.Given as goal

abbrev pub invariant-loop-first : goal.invariant-loop-first
invariant-loop-first g l =
    (g.T.Taker.taken l.taker ≡ g.T.Taker.taken l.initial.taker ++ flat_map (λ first. fitting (λ second. g.R.Listed.written (first, second)) l.p l.seconds)
    (take l.first-index l.firsts))
    × (g.T.Taker.room l.taker ≡ g.T.Taker.room l.initial.taker)
