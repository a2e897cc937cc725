use Rattle.std.proofs.Common.{take}
use Rattle.game_rules.specs.Squares.{IsSetOf}
use Rattle.rule_chooser.specs.Standing.{is_of_twin}
use Rattle.rule_chooser.proofs.special.twin_squares.Given as goal

abbrev pub invariant-loop-twin : goal.invariant-loop-twin
invariant-loop-twin l = IsSetOf (is_of_twin (take l.twin-index l.twin-items)) l.squares
