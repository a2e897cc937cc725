use Rattle.std.proofs.Common.{◌≡◌, drop}
use Rattle.std.specs.List.{list_any}
use Rattle.odd_rules.specs.Threat.{share_column}
use Rattle.threat_rules.proofs.pairs.shares_column.Given as goal

abbrev pub invariant-loop-other : goal.invariant-loop-other
invariant-loop-other l = list_any (share_column l.pair) (drop l.other-index l.earlier) ≡ list_any (share_column l.pair) l.earlier
