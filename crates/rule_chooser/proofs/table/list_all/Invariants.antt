use Rattle.std.proofs.Common.{◌≡◌, take}
use Rattle.rule_chooser.proofs.table.list_all.Given as goal

abbrev pub invariant-loop-group : goal.invariant-loop-group
invariant-loop-group l = l.list.items ≡ take l.group-index l.group-items
