use Rattle.std.proofs.Common.{◌≡◌, ◌∙◌, ◌++◌, [], ◌∷◌, false, true, subst, sym, ap, is_ok}
use Rattle.std.proofs.lemmas.Result.{err_from_is_err_and}
use Rattle.device_rules.specs.Devices.{AppendsPrefix}
use Rattle.device_rules.proofs.DeviceLaws.{AppendsPrefix_take, AppendsPrefix_more}
use Rattle.plan_lines.specs.Written.{written_list}
use Rattle.plan_lines.specs.Items.{members_text}
use Rattle.proof_lines.specs.Shape.{reason_viewed}
use Rattle.cert_format.specs.Printed.{behind_word}
use Rattle.cert_format.proofs.output.put_lemma.Goals as goal

pub returns-in_err-put_all-clause-written : goal.returns-in_err-put_all-clause-written
returns-in_err-put_all-clause-written g c =
    let same = err_from_is_err_and c.from_residual.result c.from_residual.ensures.1 in
    let tail = behind_word (reason_viewed c.args.reason.now) in
    let cut = subst (AppendsPrefix false _ _) c.bytes.ensures c.in_err-put_all.ensures.bytes in
    rw (same.1, ← c.make_lemma.ensures) (AppendsPrefix_take _ _ c.make_lemma.new.self tail cut)

pub returns-in-Plan-clause-written : goal.returns-in-Plan-clause-written
returns-in-Plan-clause-written g c =
    let mid = g.O.Sink.written c.put_all.new.out in let new = g.O.Sink.written c.put_plan_end.new.out in
    let tail = behind_word (reason_viewed c.args.reason.now) in
    let whole = subst (AppendsPrefix true _ _) c.bytes.ensures c.in_ok-put_all.ensures.bytes in
    let is_tail : members_text (written_list c.as_slice.result.now) ++ 10 ∷ [] ≡ tail =
    ap (λ list. members_text (written_list list) ++ 10 ∷ []) c.as_slice.ensures.value ∙ ap (λ reason. behind_word (reason_viewed reason)) (sym c.in-Plan.is) in
    rw (← c.make_lemma.ensures) (AppendsPrefix_more (is_ok c.put_plan_end.result) (g.O.Sink.written c.args.out.now) mid new c.make_lemma.new.self tail whole
    (subst (AppendsPrefix (is_ok c.put_plan_end.result) mid new) is_tail c.put_plan_end.ensures.written))
