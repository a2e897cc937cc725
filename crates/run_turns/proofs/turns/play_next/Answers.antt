use Rattle.std.proofs.Common.{true, false, List, ℕ, ap, subst, arith}
use Rattle.std.proofs.lemmas.Result.{err_from_is_err_and}
use Rattle.device_rules.specs.Devices.{AppendsPrefix}
use Rattle.run_turns.proofs.Got.{line_given, long_got, none_got, unread}
use Rattle.run_turns.proofs.Judged.{step_line, step_none, next_played, next_cut, next_stopped}
use Rattle.run_turns.proofs.turns.play_next.Goals as goal

pub returns-in_err-put_line-in-Ok-clause-plays : goal.returns-in_err-put_line-in-Ok-clause-plays
returns-in_err-put_line-in-Ok-clause-plays g c =
    let gives = line_given _ _ _ c.text.result.now _ c.text.ensures c.in-Line.ensures.gives in
    let same = err_from_is_err_and c.from_residual.result c.from_residual.ensures.1 in
    let line = c.in-Ok.line.items in
    let Put : List ℕ → Type 0 = λ text. AppendsPrefix false (g.O.Sink.written c.args.out.now) (g.O.Sink.written c.put_line.new.out) text in
    let made = c.in-Ok.ensures in
    rw (same.1, same.2) (step_line _ _ _ _ _ _ _ _ line (subst Put c.as_slice.ensures.value c.in_err-put_line-in-Ok.ensures.written) made.fewer
    (next_cut _ _ _ _ _ _ c.args.player.now c.play_line.new.player c.args.at gives line made.answer))

pub returns-in_ok-put_line-in-Ok-clause-plays : goal.returns-in_ok-put_line-in-Ok-clause-plays
returns-in_ok-put_line-in-Ok-clause-plays g c =
    let gives = line_given _ _ _ c.text.result.now _ c.text.ensures c.in-Line.ensures.gives in
    let line = c.in-Ok.line.items in
    let Put : List ℕ → Type 0 = λ text. AppendsPrefix true (g.O.Sink.written c.args.out.now) (g.O.Sink.written c.put_line.new.out) text in
    let made = c.in-Ok.ensures in
    step_line _ _ _ _ _ _ _ _ line (subst Put c.as_slice.ensures.value c.in_ok-put_line-in-Ok.ensures.written) made.fewer
    (next_played _ _ _ _ _ _ c.args.player.now c.play_line.new.player c.args.at gives line made.answer)

pub returns-in-Err-clause-plays : goal.returns-in-Err-clause-plays
returns-in-Err-clause-plays g c =
    let gives = line_given _ _ _ c.text.result.now _ c.text.ensures c.in-Line.ensures.gives in
    let stopped = c.in-Err.ensures in
    step_none _ _ _ _ _ _ _ (omega (arith, ap g.P.Player.left stopped.same))
    (next_stopped _ _ _ _ _ _ c.args.player.now c.play_line.new.player c.args.at gives c.in-Err.fault stopped.answer)

pub returns-in-Long-clause-plays : goal.returns-in-Long-clause-plays
returns-in-Long-clause-plays g c =
    rw c.no_move.ensures (step_none _ _ _ _ _ _ _ (omega arith) (long_got _ _ _ _ _ _ c.args.player.now c.args.at c.in-Long.ensures.gives))

pub returns-in-Done-clause-plays : goal.returns-in-Done-clause-plays
returns-in-Done-clause-plays g c = step_none _ _ _ _ _ _ _ (omega arith) (none_got _ _ _ _ _ _ c.args.player.now c.args.at c.in-Done.ensures.gives)

pub returns-in-Failed-clause-plays : goal.returns-in-Failed-clause-plays
returns-in-Failed-clause-plays g c = step_none _ _ _ _ _ _ _ (omega arith)
    (unread _ _ _ _ c.next.new.self.text c.next.new.self.fed c.args.player.now c.args.at c.in-Failed.ensures.gives)
