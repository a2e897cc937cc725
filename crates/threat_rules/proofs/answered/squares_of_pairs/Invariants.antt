use Rattle.std.proofs.Common.{take}
use Rattle.std.specs.List.{list_any}
use Rattle.game_rules.specs.Squares.{IsSetOf}
use Rattle.odd_rules.specs.Threat.{is_of_pair}
use Rattle.threat_rules.proofs.answered.squares_of_pairs.Given as goal

abbrev pub invariant-loop-pair : goal.invariant-loop-pair
invariant-loop-pair l = IsSetOf (λ u. list_any (is_of_pair u) (take l.pair-index l.pairs)) l.squares
