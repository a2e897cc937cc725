use Rattle.std.proofs.Common.{◌≡◌, map, take}
use Rattle.plan_rules.proofs.Bottoms.{bottom_over}
use Rattle.inverse_rules.proofs.ground.bottoms.Given as goal

abbrev pub invariant-loop-playable : goal.invariant-loop-playable
invariant-loop-playable l = l.bottoms.items ≡ map bottom_over (take l.playable-index l.playable-items)
