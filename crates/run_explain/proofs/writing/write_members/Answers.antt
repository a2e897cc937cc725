use Rattle.std.proofs.Common.{◌≡◌, true, false, length, is_ok, ap, subst, arith}
use Rattle.std.proofs.lemmas.List.{length-map}
use Rattle.std.proofs.lemmas.Result.{err_from_is_err_and}
use Rattle.std.specs.Io.KnownBytes.{Appends}
use Rattle.device_rules.specs.Devices.{AppendsPrefix}
use Rattle.device_rules.proofs.DeviceLaws.{AppendsPrefix_take, AppendsPrefix_more}
use Rattle.game_rules.specs.Board.{is_board}
use Rattle.game_rules.specs.Position.{board_of}
use Rattle.plan_text.specs.PlanLine.{plan_text}
use Rattle.proof_text.specs.Spelling.{as_line}
use Rattle.proof_text.proofs.Fitting.{plan_fits}
use Rattle.plan_lines.specs.Written.{written, written_list}
use Rattle.plan_lines.specs.Planned.{members}
use Rattle.explain_text.specs.Explanation.{owns_lines}
use Rattle.run_explain.proofs.writing.write_members.Goals as goal

pub print_plan-requires-clause-some : goal.print_plan-requires-clause-some
print_plan-requires-clause-some g c =
    let plan = c.args.plan.now in
    let same : length (members plan) ≡ length plan.list = length-map plan.list written in
    let board = subst (λ p. is_board (board_of p) ≡ true) c.at.ensures.value c.has_a_board.ensures.board in
    let fits = plan_fits plan.at (members plan) board (omega (arith, same, c.list.ensures.few)) c.at.ensures.plan in
    omega (arith, fits.0, same, ap length c.list.ensures.value)

pub returns-in_err-print_plan-clause-written : goal.returns-in_err-print_plan-clause-written
returns-in_err-print_plan-clause-written g c =
    let same = err_from_is_err_and c.from_residual.result c.from_residual.ensures.1 in
    let ws = members c.args.plan.now in
    let stopped = subst (λ list. AppendsPrefix false (g.O.Sink.written c.args.out.now) (g.O.Sink.written c.print_plan.new.out)
    (as_line (plan_text (written_list list)))) c.list.ensures.value c.in_err-print_plan.ensures.written in
    rw same.1 (AppendsPrefix_take _ _ (as_line (plan_text ws)) (owns_lines ws) stopped)

pub returns-clause-written : goal.returns-clause-written
returns-clause-written g c =
    let ws = members c.args.plan.now in
    let printed = subst (λ list. Appends (g.O.Sink.written c.args.out.now) (g.O.Sink.written c.print_plan.new.out)
    (as_line (plan_text (written_list list)))) c.list.ensures.value c.in_ok-print_plan.ensures.written in
    let owned = subst (λ list. AppendsPrefix (is_ok c.write_zones.result) (g.O.Sink.written c.print_plan.new.out) (g.O.Sink.written c.write_zones.new.out)
    (owns_lines (written_list list))) c.list-2.ensures.value c.write_zones.ensures.written in
    AppendsPrefix_more (is_ok c.write_zones.result) _ _ _ (as_line (plan_text ws)) (owns_lines ws) printed owned
