use Rattle.std.proofs.Common.{◌≡◌, ◌+◌, ◌-◌, suc, length, drop, sym, ap, ◌∙◌, subst, arith}
use Rattle.tool_text.specs.Trim.{numbers_cited}
use Rattle.proof_book.specs.Entries.{reason_held}
use Rattle.proof_tools.specs.Reach.{marked, all_passed, AreWithin}
use Rattle.proof_tools.proofs.Agreeing.{cites_within, lemma_ordered, passed_marked, passed_unmarked, lemma_lent}
use Rattle.proof_tools.proofs.reach.mark_all.Goals.{then-marks-n, else-marks-n}
use Rattle.proof_tools.proofs.reach.mark_all.Goals as goal

pub mark_cited-requires : goal.mark_cited-requires
mark_cited-requires c =
    let lent = lemma_lent c.args.book.now (c.loop-n.n - 1) (reason_held c.reason.result) c.reason.ensures.value in
    let ordered = lemma_ordered 1 c.args.book.now (c.loop-n.n - 1) lent.0 c.requires.earlier lent.1 in
    subst (λ reason. AreWithin (length c.loop-n.marks) (numbers_cited reason)) lent.2
    (cites_within (1 + (c.loop-n.n - 1)) (length c.loop-n.marks) (numbers_cited lent.0.reason) ordered.1
    (omega (arith, c.loop-n.auto.marks, c.requires.each, c.loop-n.invariant.within)))

pub loop-n-preserved : goal.loop-n-preserved
loop-n-preserved c =
    let i = c.loop-n.n - 1 in
    let next : suc i ≡ c.loop-n.n = omega (arith, c.loop-n-test.true) in
    let so_far = subst (λ n. c.loop-n.marks ≡ all_passed c.args.marks.now (drop n c.args.book.now)) (sym next) c.loop-n.invariant.passed in
    record {
      passed = elim c.if-marks-n.branch [
        | then-marks-n w ↦
            let lent = lemma_lent c.args.book.now i (reason_held w.reason.result) w.reason.ensures.value in
            w.marks-is ∙ w.mark_cited.ensures ∙ ap (λ reason. marked c.loop-n.marks (numbers_cited reason)) (sym lent.2)
            ∙ passed_marked c.loop-n.marks c.args.marks.now c.args.book.now i c.requires.earlier so_far lent.0 lent.1 w.if-marks-n.true
        | else-marks-n w ↦
            w.marks-is
            ∙ passed_unmarked c.loop-n.marks c.args.marks.now c.args.book.now i c.requires.earlier so_far
            (omega (arith, c.loop-n.invariant.within, c.loop-n-test.true)) w.if-marks-n.false
      ];
      within = omega (arith, c.loop-n.invariant.within);
    }
