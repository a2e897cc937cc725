use Rattle.std.proofs.Common.{◌≡◌, ◌++◌, take}
use Rattle.std.specs.List.{flat_map}
use Rattle.plan_rules.specs.Rules.{specialbefore}
use Rattle.plan_rules.specs.Listing.{playable_squares, each_with, fitting}
use Rattle.group_rules.proofs.specialbefore.push_specialbefores.Given as goal

abbrev pub invariant-loop-g : goal.invariant-loop-g
invariant-loop-g g l =
    (g.T.Taker.taken l.taker ≡ g.T.Taker.taken l.initial.taker
    ++ flat_map (λ line. fitting (λ two. specialbefore line two.0 two.1) l.p (each_with (playable_squares l.p) (playable_squares l.p)))
    (take l.g-index l.g-items))
    × (g.T.Taker.room l.taker ≡ g.T.Taker.room l.initial.taker)
