use Rattle.std.proofs.Common.{◌≡◌, not, drop}
use Rattle.std.specs.List.{find}
use Rattle.plan_rules.specs.Plan.{is_barred}
use Rattle.rule_compat.specs.Written.{written_list}
use Rattle.rule_compat.proofs.lines.first_unanswered.Given as goal

abbrev pub invariant-loop-g : goal.invariant-loop-g
invariant-loop-g l =
    find (λ g. not (is_barred l.p (written_list l.list) g)) (drop l.g-index l.g-items) ≡ find (λ g. not (is_barred l.p (written_list l.list) g)) l.g-items
