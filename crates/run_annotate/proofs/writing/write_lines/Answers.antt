use Rattle.std.proofs.Common.{◌≡◌, ◌+◌, false, drop, IsSome, sym, ap, ◌∙◌, subst, arith}
use Rattle.std.specs.Io.KnownBytes.{Appends}
use Rattle.std.proofs.lemmas.Result.{err_from_is_err_and}
use Rattle.device_rules.specs.Devices.{AppendsPrefix}
use Rattle.game_rules.specs.Position.{played, after_move}
use Rattle.tool_text.proofs.Legal.{next_legal}
use Rattle.tool_text.specs.Marks.{mark_lines}
use Rattle.tool_text.specs.declared.Mark.TheVariants.{Fine}
use Rattle.proof_tools.proofs.Putting.{PutSoFar, put_more, put_cut}
use Rattle.run_annotate.proofs.Lining.{next_line}
use Rattle.run_annotate.proofs.writing.write_lines.Goals as goal

pub returns-in_err-put_all-clause-written : goal.returns-in_err-put_all-clause-written
returns-in_err-put_all-clause-written g c =
    let same = err_from_is_err_and c.from_residual.result c.from_residual.ensures.1 in
    let i = c.loop-index.index in
    let next = next_line (c.args.before + i + 1) c.loop-index.position c.args.columns.now c.args.marks.now i c.index-columns-index.result Fine
    (omega (arith, c.loop-index-test.true)) (omega (arith, c.loop-index-test.true, c.requires.each)) c.index-columns-index.is in
    let line = c.as_slice.ensures.value ∙ c.mark_line-line.ensures in
    rw same.1 (put_cut _ _ _ _ _ _ (subst (PutSoFar _ _ _) next c.loop-index.invariant.put)
    (subst (AppendsPrefix false (g.O.Sink.written c.loop-index.out) (g.O.Sink.written c.put_all.new.out)) line c.in_err-put_all.ensures.bytes))

pub loop-index-preserved : goal.loop-index-preserved
loop-index-preserved g c =
    let i = c.loop-index.index in
    let p = c.loop-index.position in
    let column = c.index-columns-index.result in
    let low = c.loop-index-test.true in
    let next = next_line (c.args.before + i + 1) p c.args.columns.now c.args.marks.now i column Fine
    (omega (arith, low)) (omega (arith, low, c.requires.each)) c.index-columns-index.is in
    let line = c.as_slice.ensures.value ∙ c.mark_line-line.ensures in
    let put = put_more _ _ _ _ _ _ (subst (PutSoFar _ _ _) next c.loop-index.invariant.put)
    (subst (Appends (g.O.Sink.written c.loop-index.out) (g.O.Sink.written c.put_all.new.out)) line c.in_ok-put_all.ensures.bytes) in
    let count : c.args.before + i + 1 + 1 ≡ c.args.before + (i + 1) + 1 = omega arith in
    let legal = next_legal p c.args.columns.now i column (omega (arith, low)) c.index-columns-index.is c.loop-index.invariant.going in
    record {
      put = subst (PutSoFar (g.O.Sink.written c.args.out.now) (g.O.Sink.written c.put_all.new.out)
          (mark_lines (c.args.before + 1) c.args.start c.args.columns.now c.args.marks.now))
          (ap (λ n. mark_lines n (after_move p column) (drop (i + 1) c.args.columns.now) (drop (i + 1) c.args.marks.now)) count
          ∙ ap (λ q. mark_lines (c.args.before + (i + 1) + 1) q (drop (i + 1) c.args.columns.now) (drop (i + 1) c.args.marks.now))
          (sym c.after-position.ensures)) put;
      going = subst (λ q. IsSome (played q (drop (i + 1) c.args.columns.now))) (sym c.after-position.ensures) legal.1;
      later = omega (arith, c.loop-index.invariant.later, c.in_ok-put_all.ensures.cause.later);
    }
