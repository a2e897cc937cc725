use Rattle.std.proofs.Common.{◌≡◌, ◌+◌, not, drop}
use Rattle.std.specs.List.{position_from}
use Rattle.plan_rules.specs.Rules.{fits}
use Rattle.rule_compat.specs.Written.{written_list}
use Rattle.rule_compat.proofs.members.first_misfit.Given as goal

abbrev pub invariant-loop-index : goal.invariant-loop-index
invariant-loop-index l = position_from (λ w. not (fits w l.p)) (l.index + 1) (drop l.index (written_list l.list))
    ≡ position_from (λ w. not (fits w l.p)) 1 (written_list l.list)
