use Rattle.std.proofs.Common.{◌≡◌, ◌+◌, drop}
use Rattle.std.specs.List.{position_from}
use Rattle.plan_rules.specs.Rules.{facts_of, barred}
use Rattle.plan_rules.specs.Plan.{empty_part}
use Rattle.plan_rules.specs.Refusal.{first_barring}
use Rattle.rule_compat.specs.Written.{written_list}
use Rattle.rule_compat.proofs.lines.first_barring.Given as goal

abbrev pub invariant-loop-index : goal.invariant-loop-index
invariant-loop-index l =
    position_from (λ w. barred w (facts_of l.p (written_list l.list)) (empty_part l.p l.fn.g)) (l.index + 1) (drop l.index (written_list l.list))
    ≡ first_barring l.p (written_list l.list) l.fn.g
