use Rattle.std.proofs.Common.{[], ◌∷◌, is_ok}
use Rattle.std.proofs.lemmas.Result.{err_from_is_err_and}
use Rattle.device_rules.proofs.DeviceLaws.{AppendsPrefix_take, AppendsPrefix_more}
use Rattle.rule_compat.specs.Written.{written_list}
use Rattle.plan_lines.specs.Items.{members_text}
use Rattle.plan_lines.proofs.plan_line.put_plan_end.Goals as goal

pub returns-in_err-put_members-clause-written : goal.returns-in_err-put_members-clause-written
returns-in_err-put_members-clause-written g c =
    let same = err_from_is_err_and c.from_residual.result c.from_residual.ensures.1 in
    rw same.1 (AppendsPrefix_take _ _ (members_text (written_list c.args.members.now)) (10 ∷ []) c.in_err-put_members.ensures.written)

pub returns-clause-written : goal.returns-clause-written
returns-clause-written g c =
    AppendsPrefix_more (is_ok c.put_all.result) _ _ _ (members_text (written_list c.args.members.now)) (10 ∷ []) c.in_ok-put_members.ensures.written
    c.put_all.ensures.bytes
