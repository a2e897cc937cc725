use Rattle.std.proofs.Common.{◌≡◌, drop}
use Rattle.game_rules.specs.Squares.{has_square}
use Rattle.plan_rules.specs.Rules.{specialbefore}
use Rattle.plan_rules.specs.Listing.{each_with}
use Rattle.rule_law.specs.KeptFacts.{facts_in}
use Rattle.rule_chooser.specs.Standing.{first_of}
use Rattle.rule_chooser.proofs.special.special_among.Given as goal

abbrev pub invariant-loop-f : goal.invariant-loop-f
invariant-loop-f l =
    first_of l.p (facts_in l.kept) (has_square l.empty) (λ two. specialbefore l.group two.0 two.1) (each_with (drop l.f-index l.f-items) l.inside)
    ≡ first_of l.p (facts_in l.kept) (has_square l.empty) (λ two. specialbefore l.group two.0 two.1) (each_with l.f-items l.inside)
