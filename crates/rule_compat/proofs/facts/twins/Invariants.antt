use Rattle.std.proofs.Common.{◌≡◌, take}
use Rattle.rule_compat.proofs.KeptLists.{twins_in}
use Rattle.rule_compat.proofs.facts.twins.Given as goal

abbrev pub invariant-loop-instance : goal.invariant-loop-instance
invariant-loop-instance l = l.twins.items ≡ twins_in (take l.instance-index l.list)
