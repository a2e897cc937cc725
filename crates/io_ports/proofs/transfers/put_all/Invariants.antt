use Rattle.std.proofs.Common.{length, take, ◌-◌, ◌≡◌, [], ◌≤◌}
use Rattle.std.specs.Io.KnownBytes.{Appends}
use Rattle.io_ports.proofs.transfers.put_all.Given as goal

-- the prefix of the piece was appended, the count hasn't fallen, and an empty piece made no call
abbrev pub invariant-loop-done : goal.invariant-loop-done
invariant-loop-done g l =
    (l.done ≤ length l.piece)
    × Appends (g.O.Sink.written l.fn.out) (g.O.Sink.written l.out) (take l.done l.piece)
    × (g.O.Sink.faults l.fn.out ≤ g.O.Sink.faults l.out)
    × (l.piece ≡ [] → l.out ≡ l.fn.out)

abbrev pub decreases-loop-done : goal.decreases-loop-done
decreases-loop-done g l = length l.piece - l.done
