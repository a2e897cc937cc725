use Rattle.std.proofs.Common.{◌≡◌, drop}
use Rattle.game_rules.specs.Squares.{has_square}
use Rattle.rule_law.specs.KeptFacts.{facts_in}
use Rattle.rule_chooser.specs.Standing.{special_along}
use Rattle.rule_chooser.proofs.special.first_specialbefore.Given as goal

abbrev pub invariant-loop-group : goal.invariant-loop-group
invariant-loop-group l = special_along l.p (facts_in l.kept) (has_square l.empty) (drop l.group-index l.group-items)
    ≡ special_along l.p (facts_in l.kept) (has_square l.empty) l.group-items
