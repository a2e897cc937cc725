-- The facts that are kept for standing rules, as sets of squares.
use Rattle.plan_rules.specs.Rules.{Facts}
use Rattle.game_rules.specs.Squares.{has_square}
use Rattle.rule_law.specs.declared.kept.Kept.{Kept}

abbrev pub facts_in : Kept → Facts
facts_in k = record { empty = has_square k.empty; upper = has_square k.upper; pair = has_square k.pair; twin = k.twin.items }
