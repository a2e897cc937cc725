use Rattle.std.proofs.Common.{false, is_ok, ap, ◌∙◌, subst}
use Rattle.std.proofs.lemmas.Result.{err_from_is_err_and}
use Rattle.std.specs.Io.KnownBytes.{Appends}
use Rattle.std.proofs.KnownBytes.{Appends-kept, Appends-trans}
use Rattle.device_rules.specs.Devices.{AppendsPrefix}
use Rattle.device_rules.proofs.DeviceLaws.{AppendsPrefix_all, AppendsPrefix_take, AppendsPrefix_more}
use Rattle.game_rules.specs.Groups.{groups_of}
use Rattle.game_rules.specs.Position.{board_of}
use Rattle.plan_lines.specs.Planned.{members}
use Rattle.explain_text.specs.Explanation.{answer_lines, plan_explained}
use Rattle.run_explain.proofs.Explaining.{listed_of, answered, explained_in_two}
use Rattle.run_explain.proofs.writing.write_plan.Goals as goal

pub write_answers-requires : goal.write_answers-requires
write_answers-requires g c = c.as_slice.ensures.value ∙ c.groups-groups.ensures ∙ ap groups_of (c.size.ensures.value ∙ ap board_of c.at.ensures.value)

pub returns-in_err-write_members-clause-written : goal.returns-in_err-write_members-clause-written
returns-in_err-write_members-clause-written g c =
    let same = err_from_is_err_and c.from_residual.result c.from_residual.ensures.1 in
    rw (same.1, explained_in_two c.args.plan.now) (AppendsPrefix_take _ _ _ (answered c.args.plan.now) c.in_err-write_members.ensures.written)

pub returns-in_err-write_answers-clause-written : goal.returns-in_err-write_answers-clause-written
returns-in_err-write_answers-clause-written g c =
    let same = err_from_is_err_and c.from_residual-in_err-write_answers.result c.from_residual-in_err-write_answers.ensures.1 in
    let plan = c.args.plan.now in
    let listed = c.as_slice.ensures.value ∙ c.groups-groups.ensures ∙ ap groups_of (c.size.ensures.value ∙ ap board_of c.at.ensures.value) in
    let cut = subst (λ gs. AppendsPrefix false (g.O.Sink.written c.write_members.new.out) (g.O.Sink.written c.write_answers.new.out)
    (answer_lines plan.at (members plan) gs)) listed c.in_err-write_answers.ensures.written in
    rw (same.1, explained_in_two plan) (AppendsPrefix_more false _ _ _ (listed_of plan) (answered plan) c.in_ok-write_members.ensures.written cut)

pub returns-clause-written : goal.returns-clause-written
returns-clause-written g c =
    let plan = c.args.plan.now in
    let listed = c.as_slice.ensures.value ∙ c.groups-groups.ensures ∙ ap groups_of (c.size.ensures.value ∙ ap board_of c.at.ensures.value) in
    let put = subst (λ gs. Appends (g.O.Sink.written c.write_members.new.out) (g.O.Sink.written c.write_answers.new.out)
    (answer_lines plan.at (members plan) gs)) listed c.in_ok-write_answers.ensures.written in
    let all = Appends-trans _ _ _ (listed_of plan) (answered plan) c.in_ok-write_members.ensures.written put in
    AppendsPrefix_all (is_ok c.flush.result) _ _ (plan_explained plan.at (members plan)) (Appends-kept _ _ _ (plan_explained plan.at (members plan))
    (rw (explained_in_two plan) all) c.flush.ensures.bytes)
