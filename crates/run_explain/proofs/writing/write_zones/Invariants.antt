use Rattle.std.proofs.Common.{◌≤◌, take}
use Rattle.std.specs.Io.KnownBytes.{Appends}
use Rattle.plan_lines.specs.Written.{written_list}
use Rattle.explain_text.specs.Explanation.{owns_lines}
use Rattle.run_explain.proofs.writing.write_zones.Given as goal

-- the lines of the instances so far were put, and the count hasn't fallen
abbrev pub invariant-loop-instance : goal.invariant-loop-instance
invariant-loop-instance g l = record {
  bytes : Appends (g.O.Sink.written l.fn.out) (g.O.Sink.written l.out) (owns_lines (written_list (take l.instance-index l.list)));
  later : g.O.Sink.faults l.fn.out ≤ g.O.Sink.faults l.out;
}
