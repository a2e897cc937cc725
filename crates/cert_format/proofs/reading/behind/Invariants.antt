use Rattle.std.proofs.Common.{◌≡◌, ◌≤◌, length, take}
use Rattle.cert_format.proofs.reading.behind.Given as goal

abbrev pub invariant-loop-at : goal.invariant-loop-at
invariant-loop-at l = (l.at ≤ length l.bytes) × (take l.at l.bytes ≡ take l.at l.text)
