use Rattle.std.proofs.Common.{◌≡◌, drop}
use Rattle.std.specs.List.{list_any}
use Rattle.odd_rules.specs.Threat.{is_in_column}
use Rattle.threat_rules.proofs.pairs.is_paired.Given as goal

abbrev pub invariant-loop-pair : goal.invariant-loop-pair
invariant-loop-pair l = list_any (is_in_column l.c) (drop l.pair-index l.pairs) ≡ list_any (is_in_column l.c) l.pairs
