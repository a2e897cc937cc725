use Rattle.std.proofs.Common.{◌≡◌, ◌+◌, [], take, drop}
use Rattle.odd_rules.specs.Threat.{bad_pair}
use Rattle.threat_rules.proofs.pairs.first_bad.Given as goal

abbrev pub invariant-loop-index : goal.invariant-loop-index
invariant-loop-index l = bad_pair l.p l.t (take l.index l.pairs) (l.index + 1) (drop l.index l.pairs) ≡ bad_pair l.p l.t [] 1 l.pairs
