use Rattle.std.proofs.Common.{◌≡◌, ◌++◌, ◌≤◌, drop}
use Rattle.proof_tools.specs.Reach.{numbers_from}
use Rattle.proof_tools.proofs.reach.numbers_of.Given as goal

-- the numbers so far and those to come are those of all
abbrev pub invariant-loop-is_marked : goal.invariant-loop-is_marked
invariant-loop-is_marked l = record {
  told : l.numbers.items ++ numbers_from l.given (drop l.is_marked-index l.marks) ≡ numbers_from 0 l.marks;
  few : l.given ≤ l.is_marked-index;
}
