use Rattle.std.proofs.Common.{◌≡◌, ◌≤◌, ◌-◌, length, drop}
use Rattle.proof_text.specs.Spelling.{lines_of}
use Rattle.tool_text.specs.Trim.{rank, kept_lemmas}
use Rattle.proof_tools.specs.Reach.{mark_at}
use Rattle.proof_tools.proofs.Putting.{PutSoFar}
use Rattle.proof_tools.proofs.printed.print_reached.Given as goal

-- the lemmas so far were put where they are reached, and those behind them are left
abbrev pub invariant-loop-n : goal.invariant-loop-n
invariant-loop-n g l =
    let keep = mark_at l.reach in
    record {
      put : PutSoFar (g.O.Sink.written l.fn.out) (g.O.Sink.written l.out) (lines_of (kept_lemmas keep l.book)) (lines_of (kept_lemmas keep (drop l.n l.book)));
      counted : l.lemmas ≡ rank keep l.n;
      within : l.n ≤ length l.book;
      later : g.O.Sink.faults l.fn.out ≤ g.O.Sink.faults l.out;
    }

abbrev pub decreases-loop-n : goal.decreases-loop-n
decreases-loop-n g l = length l.book - l.n
