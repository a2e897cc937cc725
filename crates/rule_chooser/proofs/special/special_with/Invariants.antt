use Rattle.std.proofs.Common.{◌≡◌, drop}
use Rattle.game_rules.specs.Squares.{has_square}
use Rattle.plan_rules.specs.Rules.{specialbefore}
use Rattle.rule_law.specs.KeptFacts.{facts_in}
use Rattle.rule_chooser.specs.Standing.{first_of}
use Rattle.rule_chooser.proofs.special.special_with.Given as goal

abbrev pub invariant-loop-e0 : goal.invariant-loop-e0
invariant-loop-e0 l =
    first_of l.p (facts_in l.kept) (has_square l.empty) (λ e0. specialbefore l.group l.f e0) (drop l.e0-index l.e0-items)
    ≡ first_of l.p (facts_in l.kept) (has_square l.empty) (λ e0. specialbefore l.group l.f e0) l.e0-items
