use Rattle.std.proofs.Common.{◌+◌, ◌≤◌, drop, IsSome}
use Rattle.game_rules.specs.Position.{played}
use Rattle.tool_text.specs.Marks.{mark_lines}
use Rattle.proof_tools.proofs.Putting.{PutSoFar}
use Rattle.run_annotate.proofs.writing.write_lines.Given as goal

-- the lines so far were put, and those that are left are of the other moves, which are legal
abbrev pub invariant-loop-index : goal.invariant-loop-index
invariant-loop-index g l = record {
  put : PutSoFar (g.O.Sink.written l.fn.out) (g.O.Sink.written l.out) (mark_lines (l.before + 1) l.fn.start l.columns l.marks)
      (mark_lines (l.before + l.index + 1) l.position (drop l.index l.columns) (drop l.index l.marks));
  going : IsSome (played l.position (drop l.index l.columns));
  later : g.O.Sink.faults l.fn.out ≤ g.O.Sink.faults l.out;
}
