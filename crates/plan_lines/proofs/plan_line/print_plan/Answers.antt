use Rattle.std.proofs.Common.{[], ◌∷◌, ◌++◌, codes, is_ok}
use Rattle.std.proofs.lemmas.Result.{err_from_is_err_and}
use Rattle.device_rules.proofs.DeviceLaws.{AppendsPrefix_take, AppendsPrefix_more}
use Rattle.rule_compat.specs.Written.{written_list}
use Rattle.plan_lines.specs.Items.{members_text}
use Rattle.plan_lines.proofs.Members.{plan_pieces}
use Rattle.plan_lines.proofs.plan_line.print_plan.Goals as goal

pub returns-in_err-put_all-clause-written : goal.returns-in_err-put_all-clause-written
returns-in_err-put_all-clause-written g c =
    let same = err_from_is_err_and c.from_residual.result c.from_residual.ensures.1 in
    rw (same.1, ← plan_pieces (written_list c.args.list.now))
    (AppendsPrefix_take _ _ (codes "plan") (members_text (written_list c.args.list.now) ++ 10 ∷ []) c.in_err-put_all.ensures.bytes)

pub returns-clause-written : goal.returns-clause-written
returns-clause-written g c =
    let members = members_text (written_list c.args.list.now) in
    rw (← plan_pieces (written_list c.args.list.now))
    (AppendsPrefix_more (is_ok c.put_plan_end.result) _ _ _ (codes "plan") (members ++ 10 ∷ []) c.in_ok-put_all.ensures.bytes c.put_plan_end.ensures.written)
