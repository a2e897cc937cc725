use Rattle.std.proofs.Common.{◌≡◌, drop}
use Rattle.odd_rules.specs.Refusal.{first_by}
use Rattle.threat_rules.proofs.threat.Threat.first.Given as goal

abbrev pub invariant-loop-group : goal.invariant-loop-group
invariant-loop-group l = first_by l.fn.p (drop l.group-index l.group-items) ≡ first_by l.fn.p l.group-items
