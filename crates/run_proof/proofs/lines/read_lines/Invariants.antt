use Rattle.std.proofs.Common.{◌-◌, ◌≤◌, List, true}
use Rattle.io_ports.specs.Reading.{pending}
use Rattle.proof_text.specs.Lemma.{Lemma}
use Rattle.run_proof.specs.Lines.{begin, HasRead, Cuts}
use Rattle.run_proof.specs.Whole.{most_lines_read}
use Rattle.run_proof.proofs.lines.read_lines.Given as goal

-- the lines before the next were read, and the taker has got their lemmas
abbrev pub invariant-loop-checker : goal.invariant-loop-checker
invariant-loop-checker g l = record {
  read : (ms : List Lemma) × g.T.LemmaTaker.holds l.taker l.head.game.position ms
      × HasRead l.head.version g.T.LemmaTaker.puts true (begin l.head.game.position) (record { stands = l.checker.stands; next = l.at; lemmas = ms })
      (pending l.fn.lines (g.S.Source.left l.fn.source) (g.S.Source.last_read l.fn.source))
      (pending l.lines (g.S.Source.left l.source) (g.S.Source.last_read l.source)) (g.O.Sink.written l.fn.out) (g.O.Sink.written l.out) Cuts;
  few : l.at ≤ most_lines_read;
  read_later : g.S.Source.faults l.fn.source ≤ g.S.Source.faults l.source;
  put_later : g.O.Sink.faults l.fn.out ≤ g.O.Sink.faults l.out;
}

abbrev pub decreases-loop-checker : goal.decreases-loop-checker
decreases-loop-checker g l = 20000002 - l.at
