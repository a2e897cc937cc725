use Rattle.std.proofs.Common.{◌≡◌, drop}
use Rattle.game_rules.specs.Squares.{has_square}
use Rattle.rule_law.specs.KeptFacts.{facts_in}
use Rattle.rule_compat.specs.Written.{written_list}
use Rattle.rule_chooser.specs.Standing.{some_bars}
use Rattle.rule_chooser.proofs.full.has_bar.Given as goal

abbrev pub invariant-loop-instance : goal.invariant-loop-instance
invariant-loop-instance l = some_bars (facts_in l.kept) (has_square l.empty) (written_list (drop l.instance-index l.list))
    ≡ some_bars (facts_in l.kept) (has_square l.empty) (written_list l.list)
