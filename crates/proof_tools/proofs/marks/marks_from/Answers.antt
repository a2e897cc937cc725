use Rattle.std.proofs.Common.{◌≡◌, ◌∙◌, sym, ap, subst, ◌+◌, [], ◌∷◌, ◌++◌, take, drop, length, Some, IsSome}
use Rattle.std.proofs.lemmas.List.{length-append}
use Rattle.game_rules.specs.Position.{played, after_move}
use Rattle.game_rules.proofs.FaultReaders.{played_push}
use Rattle.tool_text.specs.Marks.{Says, AreMarks}
use Rattle.proof_tools.specs.Marked.{IsTold}
use Rattle.tool_text.proofs.Legal.{next_legal, next_taken}
use Rattle.proof_tools.proofs.Marking.{told_kept, mark_says, marks_push}
use Rattle.proof_tools.proofs.marks.marks_from.Goals as goal

pub loop-column-preserved : goal.loop-column-preserved
loop-column-preserved g c =
    let holds = g.V.Valuer.holds c.args.valuer.now in
    let so_far = c.loop-column.invariant in
    let p = c.loop-column.position in
    let i = c.loop-column.column-index in
    let column = c.column-item.result in
    let next = next_legal p c.args.moves.now i column c.loop-column-test.true c.column-item.is so_far.going in
    let taken = next_taken c.args.moves.now i column c.loop-column-test.true c.column-item.is in
    let after = told_kept holds (g.V.Valuer.holds c.loop-column.valuer) (after_move p column) c.in_ok-after.after so_far.kept
    (subst (λ q. IsTold (g.V.Valuer.holds c.loop-column.valuer) q c.in_ok-after.after) c.after-next.ensures c.in_ok-after.ensures.told) in
    let says = subst (Says holds p (after_move p column)) (sym c.mark_of.ensures)
    (mark_says holds p column next.0 c.loop-column.before c.in_ok-after.after so_far.told after) in
    record {
      along =
          ap (played c.args.first) taken ∙ played_push (take i c.args.moves.now) c.args.first p column so_far.along next.0
          ∙ ap Some (sym c.after-next.ensures);
      going = subst (λ q. IsSome (played q (drop (i + 1) c.args.moves.now))) (sym c.after-next.ensures) next.1;
      marked =
          subst (λ marks. AreMarks holds c.args.first (take (i + 1) c.args.moves.now) marks) (sym c.push.ensures.items)
          (subst (λ columns. AreMarks holds c.args.first columns (c.loop-column.marks.items ++ c.mark_of.result ∷ [])) (sym taken)
          (marks_push holds c.args.first p (take i c.args.moves.now) c.loop-column.marks.items column c.mark_of.result so_far.along so_far.marked says));
      told = subst (λ q. IsTold holds q c.in_ok-after.after) (sym c.after-next.ensures) after;
      kept = λ q found told. so_far.kept q found (c.in_ok-after.ensures.kept q found told);
      counted = ap length c.push.ensures.items ∙ length-append c.loop-column.marks.items (c.mark_of.result ∷ []) ∙ ap (λ n. n + 1) so_far.counted;
    }
