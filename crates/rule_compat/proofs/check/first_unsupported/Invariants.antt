use Rattle.std.proofs.Common.{◌≡◌, ◌+◌, not, drop}
use Rattle.std.specs.List.{position_from}
use Rattle.plan_rules.specs.Rules.{is_supported}
use Rattle.group_rules.specs.KeptFacts.{facts_in}
use Rattle.rule_compat.specs.Written.{written_list}
use Rattle.rule_compat.proofs.check.first_unsupported.Given as goal

abbrev pub invariant-loop-index : goal.invariant-loop-index
invariant-loop-index l = position_from (λ w. not (is_supported w (facts_in l.kept))) (l.index + 1) (drop l.index (written_list l.list))
    ≡ position_from (λ w. not (is_supported w (facts_in l.kept))) 1 (written_list l.list)
