use Rattle.std.proofs.Common.{◌≤◌, take}
use Rattle.std.specs.Io.KnownBytes.{Appends}
use Rattle.plan_lines.specs.Planned.{members}
use Rattle.explain_text.specs.Explanation.{answer_lines}
use Rattle.run_explain.proofs.writing.write_answers.Given as goal

-- the lines of the groups so far were put, and the count hasn't fallen
abbrev pub invariant-loop-group : goal.invariant-loop-group
invariant-loop-group g l = record {
  bytes : Appends (g.O.Sink.written l.fn.out) (g.O.Sink.written l.out) (answer_lines l.plan.at (members l.plan) (take l.group-index l.groups));
  later : g.O.Sink.faults l.fn.out ≤ g.O.Sink.faults l.out;
}
