use Rattle.std.proofs.Common.{◌+◌, ◌≤◌, true}
use Rattle.io_ports.specs.Reading.{pending}
use Rattle.run_turns.specs.Steps.{TurnStep}
use Rattle.run_turns.proofs.Judged.{Goes}
use Rattle.run_turns.proofs.turns.play_turns.Given as goal

-- what is played by all lines is what was written, and then what is played by those that are left
abbrev pub invariant-loop-at : goal.invariant-loop-at
invariant-loop-at g l = record {
  goes : TurnStep (pending l.fn.lines (g.S.Source.left l.fn.source) (g.S.Source.last_read l.fn.source))
      (pending l.lines (g.S.Source.left l.source) (g.S.Source.last_read l.source)) (g.O.Sink.written l.fn.out) (g.O.Sink.written l.out) true
      (g.P.Player.left l.fn.player) (g.P.Player.left l.player) (Goes g.P.Player.stands g.P.Player.turn l.fn.player l.fn.first l.player l.at);
  bound : l.at + g.P.Player.left l.player ≤ l.fn.first + g.P.Player.left l.fn.player;
  read_later : g.S.Source.faults l.fn.source ≤ g.S.Source.faults l.source;
  write_later : g.O.Sink.faults l.fn.out ≤ g.O.Sink.faults l.out;
}

abbrev pub decreases-loop-at : goal.decreases-loop-at
decreases-loop-at g l = g.P.Player.left l.player
