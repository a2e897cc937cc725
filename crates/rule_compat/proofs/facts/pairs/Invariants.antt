use Rattle.std.proofs.Common.{take}
use Rattle.std.specs.List.{flat_map}
use Rattle.game_rules.specs.Squares.{has_square, IsSetOf}
use Rattle.plan_rules.specs.Rules.{pair_of}
use Rattle.rule_compat.specs.Written.{written_list}
use Rattle.rule_compat.proofs.facts.pairs.Given as goal

abbrev pub invariant-loop-instance : goal.invariant-loop-instance
invariant-loop-instance l = IsSetOf (has_square (flat_map pair_of (written_list (take l.instance-index l.list)))) l.squares
