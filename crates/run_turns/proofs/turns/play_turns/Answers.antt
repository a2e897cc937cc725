use Rattle.std.proofs.Common.{Bool, true, Ok, ap, subst, arith}
use Rattle.std.proofs.lemmas.Result.{err_from_is_err_and}
use Rattle.device_rules.proofs.DeviceLaws.{Rose_before}
use Rattle.io_ports.specs.Reading.{pending}
use Rattle.play_text.specs.Play.{AllPlayed}
use Rattle.run_turns.specs.Steps.{TurnStep, PlaysNext}
use Rattle.run_turns.proofs.Judged.{step_then, goes_none, goes_next, goes_end, goes_stop}
use Rattle.run_turns.proofs.turns.play_turns.Goals as goal

pub loop-at-init : goal.loop-at-init
loop-at-init g c = record {
  goes = goes_none _ _ _ _ _ _ _;
  bound = omega arith;
  read_later = omega arith;
  write_later = omega arith;
}

pub returns-in_err-play_next-clause-plays : goal.returns-in_err-play_next-clause-plays
returns-in_err-play_next-clause-plays g c =
    let same = err_from_is_err_and c.from_residual.result c.from_residual.ensures.1 in
    rw (same.1, same.2) (step_then _ _ _ _ _ _ _ _ _ _ _ _ _ c.loop-at.invariant.goes c.in_err-play_next.ensures.plays
    (λ xs ys bytes mid rest goes. goes_stop _ _ _ _ c.loop-at.player c.loop-at.at xs ys bytes mid rest goes c.in_err-play_next.field-0.0))

pub returns-in_err-play_next-clause-read_fault : goal.returns-in_err-play_next-clause-read_fault
returns-in_err-play_next-clause-read_fault g c =
    let same = err_from_is_err_and c.from_residual.result c.from_residual.ensures.1 in
    rw (same.1, same.2) (λ status_of is. Rose_before _ _ _ c.loop-at.invariant.read_later (c.in_err-play_next.ensures.read_fault status_of is))

pub returns-in_err-play_next-clause-write_fault : goal.returns-in_err-play_next-clause-write_fault
returns-in_err-play_next-clause-write_fault g c =
    let same = err_from_is_err_and c.from_residual.result c.from_residual.ensures.1 in
    rw (same.1, same.2) (λ status_of is. Rose_before _ _ _ c.loop-at.invariant.write_later (c.in_err-play_next.ensures.write_fault status_of is))

pub loop-at-preserved : goal.loop-at-preserved
loop-at-preserved g c =
    let before = c.loop-at.invariant in
    let b = pending c.loop-at.lines (g.S.Source.left c.loop-at.source) (g.S.Source.last_read c.loop-at.source) in
    let d = pending c.play_next.new.lines (g.S.Source.left c.play_next.new.source) (g.S.Source.last_read c.play_next.new.source) in
    let P : Bool → Type 0 = λ more. TurnStep b d (g.O.Sink.written c.loop-at.out) (g.O.Sink.written c.play_next.new.out) true
    (g.P.Player.left c.loop-at.player) (g.P.Player.left c.play_next.new.player)
    (PlaysNext {H = g.row.H.Denot} g.P.Player.stands g.P.Player.turn c.loop-at.player c.play_next.new.player c.loop-at.at (Ok more)) in
    let fewer = c.in_ok-play_next.ensures.fewer (ap Ok c.if-branch.true) in
    record {
      goes = step_then _ _ _ _ _ _ _ _ _ _ _ _ _ before.goes (subst P c.if-branch.true c.in_ok-play_next.ensures.plays)
          (λ xs ys bytes mid rest goes. goes_next _ _ _ _ c.loop-at.player c.loop-at.at xs ys bytes mid rest goes c.play_next.new.player);
      bound = omega (arith, before.bound, fewer);
      read_later = omega (arith, before.read_later, c.in_ok-play_next.ensures.later.0);
      write_later = omega (arith, before.write_later, c.in_ok-play_next.ensures.later.1);
    }

pub returns-clause-plays : goal.returns-clause-plays
returns-clause-plays g c =
    let b = pending c.loop-at.lines (g.S.Source.left c.loop-at.source) (g.S.Source.last_read c.loop-at.source) in
    let d = pending c.play_next.new.lines (g.S.Source.left c.play_next.new.source) (g.S.Source.last_read c.play_next.new.source) in
    let P : Bool → Type 0 = λ more. TurnStep b d (g.O.Sink.written c.loop-at.out) (g.O.Sink.written c.play_next.new.out) true
    (g.P.Player.left c.loop-at.player) (g.P.Player.left c.play_next.new.player)
    (PlaysNext {H = g.row.H.Denot} g.P.Player.stands g.P.Player.turn c.loop-at.player c.play_next.new.player c.loop-at.at (Ok more)) in
    step_then _ _ _ _ _ _ _ _ _ _ _ _ _ c.loop-at.invariant.goes (subst P c.if-branch.false c.in_ok-play_next.ensures.plays)
    (λ xs ys bytes mid rest goes. goes_end _ _ _ _ c.loop-at.player c.loop-at.at xs ys bytes mid rest goes AllPlayed)
