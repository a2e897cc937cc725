use Rattle.std.proofs.Common.{◌≡◌, not, drop}
use Rattle.std.specs.List.{find}
use Rattle.plan_rules.specs.Rules.{together}
use Rattle.rule_compat.specs.Written.{written}
use Rattle.rule_compat.proofs.placed.first_clash.Given as goal

abbrev pub invariant-loop-earlier : goal.invariant-loop-earlier
invariant-loop-earlier l = find (λ earlier. not (together (written earlier.1) (written l.zone.1))) (drop l.earlier-index l.zones)
    ≡ find (λ earlier. not (together (written earlier.1) (written l.zone.1))) l.zones
