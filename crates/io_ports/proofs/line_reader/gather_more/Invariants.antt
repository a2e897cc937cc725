use Rattle.std.proofs.Common.{◌≡◌, ◌+◌, ◌-◌, ◌≤◌, length}
use Rattle.io_ports.specs.Lines.{longest_line, line_len, IsWithinRead, Moves}
use Rattle.io_ports.proofs.line_reader.gather_more.Given as goal

-- no byte was lost, the count hasn't fallen, and no more was taken than has to be
abbrev pub invariant-loop-ahead : goal.invariant-loop-ahead
invariant-loop-ahead g l =
    (l.len ≡ line_len l.ahead)
    × Moves (g.S.Source.left l.fn.source) (g.S.Source.left l.source) l.fn.ahead l.ahead
    × (g.S.Source.faults l.fn.source ≤ g.S.Source.faults l.source)
    × (IsWithinRead (g.S.Source.last_read l.fn.source) l.fn.ahead → IsWithinRead (g.S.Source.last_read l.source) l.ahead)

-- one more byte at each turn, and no more than a line may have before the last
abbrev pub decreases-loop-ahead : goal.decreases-loop-ahead
decreases-loop-ahead g l = longest_line + 1 - length l.ahead
