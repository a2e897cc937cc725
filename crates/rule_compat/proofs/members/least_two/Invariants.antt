use Rattle.std.proofs.Common.{◌≡◌, ◌<◌, take, Some}
use Rattle.plan_rules.specs.Zones.{first_two_from}
use Rattle.rule_compat.proofs.Gathered.{stand}
use Rattle.rule_compat.proofs.members.least_two.Given as goal

abbrev pub invariant-loop-index : goal.invariant-loop-index
invariant-loop-index l = record { two : first_two_from stand 1 (take l.index l.list) ≡ Some l.least; less : l.least.0 < l.second }
