use Rattle.std.proofs.Common.{◌≡◌, ℕ, ◌≤◌, length, drop}
use Rattle.odd_rules.specs.Refusal.{picks}
use Rattle.threat_rules.proofs.Pairings.{tried}
use Rattle.threat_rules.proofs.first.+first_pairing.Given as goal

abbrev pub decreases-first_pairing : goal.decreases-first_pairing
decreases-first_pairing l = length l.columns.now

abbrev pub invariant-loop-index : goal.invariant-loop-index
invariant-loop-index l = (n : ℕ) → length l.rest ≤ n
    → tried l.p l.group l.pairs n l.first (drop l.index (picks l.rest)) ≡ tried l.p l.group l.pairs n l.first (picks l.rest)
