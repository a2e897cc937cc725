use Rattle.std.proofs.Common.{◌≡◌, drop}
use Rattle.game_rules.specs.Squares.{has_square}
use Rattle.rule_law.specs.KeptFacts.{facts_in}
use Rattle.rule_compat.specs.Written.{written_list}
use Rattle.rule_chooser.specs.Standing.{some_bars}
use Rattle.rule_chooser.proofs.full.is_barred.Given as goal

abbrev pub invariant-loop-zone : goal.invariant-loop-zone
invariant-loop-zone l = some_bars (facts_in l.kept) (has_square l.empty) (written_list (drop l.zone-index l.set))
    ≡ some_bars (facts_in l.kept) (has_square l.empty) (written_list l.set)
