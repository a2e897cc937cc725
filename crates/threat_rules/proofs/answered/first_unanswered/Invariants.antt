use Rattle.std.proofs.Common.{◌≡◌, drop}
use Rattle.std.specs.List.{find}
use Rattle.threat_rules.proofs.SafeSets.{is_bare}
use Rattle.threat_rules.proofs.answered.first_unanswered.Given as goal

abbrev pub invariant-loop-g : goal.invariant-loop-g
invariant-loop-g l = find (is_bare l.p l.fn.t l.pairs) (drop l.g-index l.g-items) ≡ find (is_bare l.p l.fn.t l.pairs) l.g-items
