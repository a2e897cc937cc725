use Rattle.std.proofs.Common.{◌≡◌, take}
use Rattle.rule_chooser.proofs.full.list_instances.Given as goal

abbrev pub invariant-loop-zone : goal.invariant-loop-zone
invariant-loop-zone l = l.list.items ≡ take l.zone-index l.set
