use Rattle.std.proofs.Common.{◌≡◌, ◌≤◌, drop, length}
use Rattle.proof_tools.specs.Reach.{all_passed}
use Rattle.proof_tools.proofs.reach.mark_all.Given as goal

-- the marks are those of the lemmas from here on
abbrev pub invariant-loop-n : goal.invariant-loop-n
invariant-loop-n l = record {
  passed : l.marks ≡ all_passed l.fn.marks (drop l.n l.book);
  within : l.n ≤ length l.book;
}

abbrev pub decreases-loop-n : goal.decreases-loop-n
decreases-loop-n l = l.n
