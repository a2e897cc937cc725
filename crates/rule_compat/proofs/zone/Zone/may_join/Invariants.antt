use Rattle.std.proofs.Common.{◌≡◌, drop}
use Rattle.std.specs.List.{list_all}
use Rattle.plan_rules.specs.Rules.{together}
use Rattle.rule_compat.specs.Written.{written, written_list}
use Rattle.rule_compat.proofs.zone.Zone.may_join.Given as goal

abbrev pub invariant-loop-member : goal.invariant-loop-member
invariant-loop-member l = list_all (λ v. together v (written l.self)) (written_list (drop l.member-index l.set))
    ≡ list_all (λ v. together v (written l.self)) (written_list l.set)
