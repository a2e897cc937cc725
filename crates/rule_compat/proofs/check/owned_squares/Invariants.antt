use Rattle.std.proofs.Common.{take}
use Rattle.game_rules.specs.Squares.{IsSetOf}
use Rattle.rule_compat.proofs.Checked.{in_zones}
use Rattle.rule_compat.proofs.check.owned_squares.Given as goal

abbrev pub invariant-loop-zone : goal.invariant-loop-zone
invariant-loop-zone l = IsSetOf (in_zones (take l.zone-index l.zones)) l.owned
