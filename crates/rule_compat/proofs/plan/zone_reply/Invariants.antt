use Rattle.std.proofs.Common.{◌≡◌, drop}
use Rattle.std.specs.List.{find}
use Rattle.game_rules.specs.Squares.{has_square}
use Rattle.plan_rules.specs.Rules.{zone_of}
use Rattle.rule_compat.specs.Written.{written}
use Rattle.rule_compat.proofs.plan.zone_reply.Given as goal

abbrev pub invariant-loop-zone : goal.invariant-loop-zone
invariant-loop-zone l = find (λ zone. has_square (zone_of (written zone.1)) l.last) (drop l.zone-index l.zones)
    ≡ find (λ zone. has_square (zone_of (written zone.1)) l.last) l.zones
