use Rattle.std.proofs.Common.{◌≡◌, take, None}
use Rattle.plan_rules.specs.Zones.{first_two_from, zones_from}
use Rattle.rule_compat.proofs.Gathered.{stand, owns}
use Rattle.rule_compat.proofs.members.gather.Given as goal

abbrev pub invariant-loop-index : goal.invariant-loop-index
invariant-loop-index l = record { none : first_two_from stand 1 (take l.index l.list) ≡ None; kept : l.zones.items ≡ zones_from owns 1 (take l.index l.list) }
