use Rattle.std.proofs.Common.{length, ◌-◌, ◌+◌, ◌*◌}
use Rattle.rule_chooser.proofs.NextSets.{GoesFrom}
use Rattle.rule_chooser.proofs.visit.+sets.Given as goal

abbrev pub decreases-visit : goal.decreases-visit
decreases-visit l = 2 * (50 - length l.set.now.items) + 1

abbrev pub decreases-visit_next : goal.decreases-visit_next
decreases-visit_next l = 2 * (50 - length l.set.now.items)

abbrev pub invariant-visit_next-zones : goal.invariant-visit_next-zones
invariant-visit_next-zones l = GoesFrom l.p l.fn.set.items l.set.items l.ground.zones.list.items l.zones l.uncovered l.first l.fn.left l.left l.index

abbrev pub decreases-visit_next-zones : goal.decreases-visit_next-zones
decreases-visit_next-zones l = length l.zones - l.index
