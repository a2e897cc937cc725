use Rattle.std.proofs.Common.{◌+◌, take, subst, arith, flat_map}
use Rattle.std.specs.Io.KnownBytes.{Appends}
use Rattle.std.proofs.lemmas.Result.{err_from_is_err_and}
use Rattle.plan_lines.specs.Planned.{members}
use Rattle.plan_lines.proofs.Members.{pieces_cut, pieces_more}
use Rattle.run_explain.proofs.Explaining.{lines_for, lines_by_group, listed_lies}
use Rattle.run_explain.proofs.writing.write_answers.Goals as goal

pub write_answer-requires : goal.write_answer-requires
write_answer-requires g c = listed_lies c.args.plan.now.at c.args.groups.now c.requires c.loop-group.group-index c.group-item.result (omega arith)
    c.group-item.is

pub returns-in_err-write_answer-clause-written : goal.returns-in_err-write_answer-clause-written
returns-in_err-write_answer-clause-written g c =
    let same = err_from_is_err_and c.from_residual.result c.from_residual.ensures.1 in
    let plan = c.args.plan.now in
    let i = c.loop-group.group-index in
    let before : Appends (g.O.Sink.written c.args.out.now) (g.O.Sink.written c.loop-group.out) (flat_map (lines_for plan) (take i c.args.groups.now)) =
    subst (Appends _ _) (lines_by_group plan.at (members plan) (take i c.args.groups.now)) c.loop-group.invariant.bytes in
    rw (same.1, lines_by_group plan.at (members plan) c.args.groups.now)
    (pieces_cut (lines_for plan) _ _ _ c.args.groups.now i c.group-item.result (omega arith) c.group-item.is before c.in_err-write_answer.ensures.written)

pub loop-group-preserved : goal.loop-group-preserved
loop-group-preserved g c =
    let plan = c.args.plan.now in
    let i = c.loop-group.group-index in
    let before : Appends (g.O.Sink.written c.args.out.now) (g.O.Sink.written c.loop-group.out) (flat_map (lines_for plan) (take i c.args.groups.now)) =
    subst (Appends _ _) (lines_by_group plan.at (members plan) (take i c.args.groups.now)) c.loop-group.invariant.bytes in
    record {
      bytes = rw (lines_by_group plan.at (members plan) (take (i + 1) c.args.groups.now))
          (pieces_more (lines_for plan) _ _ _ c.args.groups.now i c.group-item.result (omega arith) c.group-item.is before
          c.in_ok-write_answer.ensures.written);
      later = omega (arith, c.loop-group.invariant.later, c.in_ok-write_answer.ensures.cause.later);
    }
