use Rattle.std.proofs.Common.{◌≤◌, ◌∷◌, take, flat_map}
use Rattle.std.specs.Io.KnownBytes.{Appends}
use Rattle.plan_text.specs.Items.{square_text}
use Rattle.run_explain.proofs.writing.write_each_square.Given as goal

-- the squares so far were put, and the count hasn't fallen
abbrev pub invariant-loop-square : goal.invariant-loop-square
invariant-loop-square g l = record {
  bytes : Appends (g.O.Sink.written l.fn.out) (g.O.Sink.written l.out) (flat_map (λ u. 32 ∷ square_text u) (take l.square-index l.squares));
  later : g.O.Sink.faults l.fn.out ≤ g.O.Sink.faults l.out;
}
