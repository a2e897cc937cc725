use Rattle.std.proofs.Common.{◌≡◌, drop}
use Rattle.std.specs.List.{find}
use Rattle.odd_rules.specs.Threat.{is_target}
use Rattle.threat_rules.proofs.target.target.Given as goal

abbrev pub invariant-loop-square : goal.invariant-loop-square
invariant-loop-square l = find (is_target l.p l.group) (drop l.square-index l.square-items) ≡ find (is_target l.p l.group) l.square-items
