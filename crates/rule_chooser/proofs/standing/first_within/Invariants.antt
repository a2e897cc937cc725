use Rattle.std.proofs.Common.{◌≡◌, drop}
use Rattle.std.specs.List.{find}
use Rattle.rule_chooser.specs.Standing.{is_open_within}
use Rattle.rule_chooser.proofs.standing.first_within.Given as goal

abbrev pub invariant-loop-group : goal.invariant-loop-group
invariant-loop-group l = find (is_open_within l.set) (drop l.group-index l.groups) ≡ find (is_open_within l.set) l.groups
