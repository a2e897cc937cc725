use Rattle.std.proofs.Common.{◌≡◌, false, take}
use Rattle.plan_rules.specs.Rules.{is_twin}
use Rattle.group_rules.proofs.specialbefore.are_twins.Given as goal

abbrev pub invariant-loop-twin : goal.invariant-loop-twin
invariant-loop-twin l = is_twin (take l.twin-index l.twins) l.u l.v ≡ false
