use Rattle.std.proofs.Common.{◌≡◌, ◌+◌, ◌*◌, ◌≤◌, [], ◌∷◌, ◌++◌, length, drop}
use Rattle.cert_format.specs.Printed.{cite_words}
use Rattle.cert_format.proofs.back_line.BackLine.put_all.Given as goal

-- the cites from the index on were put before the line feed
abbrev pub invariant-loop-index : goal.invariant-loop-index
invariant-loop-index l = record {
  line : l.self ≡ cite_words (drop l.index l.cites) ++ 10 ∷ [];
  within : l.index ≤ length l.cites;
  bound : length l.self + 13 * l.index ≤ 1 + 13 * length l.cites;
}

abbrev pub decreases-loop-index : goal.decreases-loop-index
decreases-loop-index l = l.index
