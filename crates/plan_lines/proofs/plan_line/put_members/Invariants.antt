use Rattle.std.proofs.Common.{◌≤◌, take}
use Rattle.std.specs.Io.KnownBytes.{Appends}
use Rattle.rule_compat.specs.Written.{written_list}
use Rattle.plan_lines.specs.Items.{members_text}
use Rattle.plan_lines.proofs.plan_line.put_members.Given as goal

-- the members so far were put, and the count hasn't fallen
abbrev pub invariant-loop-instance : goal.invariant-loop-instance
invariant-loop-instance g l = record {
  bytes : Appends (g.O.Sink.written l.fn.out) (g.O.Sink.written l.out) (members_text (written_list (take l.instance-index l.list)));
  later : g.O.Sink.faults l.fn.out ≤ g.O.Sink.faults l.out;
}
