use Rattle.std.proofs.Common.{◌≤◌, ◌-◌, ◌++◌, length, sym, ap, ◌∙◌, take, arith}
use Rattle.std.proofs.lemmas.List.{length-take-le}
use Rattle.io_ports.specs.Lines.{most_held}
use Rattle.io_ports.proofs.Windows.{grown, unmoved, Moves-none, OnErr-from}
use Rattle.io_ports.proofs.LineLemmas.{within_filled}
use Rattle.io_ports.proofs.ahead.Ahead.fill.Goals as goal

pub returns-in_err-count-clause-moves : goal.returns-in_err-count-clause-moves
returns-in_err-count-clause-moves g c =
    let b = c.move_to_start.new.buffer in let held = c.self.inside.end - c.self.inside.start in
    let within : held ≤ length b = omega (arith, c.self.told) in
    let same = unmoved b c.read.new.buf 0 held (most_held - held) (omega arith) within ∙ c.move_to_start.ensures ∙ c.self.view_is in
    Moves-none _ _ c.args.self.now _ c.in_err-count.ensures.bytes same

pub returns-in_err-count-clause-refused : goal.returns-in_err-count-clause-refused
returns-in_err-count-clause-refused g c =
    let b = c.move_to_start.new.buffer in let held = c.self.inside.end - c.self.inside.start in
    let within : held ≤ length b = omega (arith, c.self.told) in
    let same = unmoved b c.read.new.buf 0 held (most_held - held) (omega arith) within ∙ c.move_to_start.ensures ∙ c.self.view_is in
    OnErr-from c.from_residual.result _ same

pub returns-clause-moves : goal.returns-clause-moves
returns-clause-moves g c =
    let b = c.move_to_start.new.buffer in let held = c.self.inside.end - c.self.inside.start in
    let within : held ≤ length b = omega (arith, c.self.told) in
    let n = c.in_ok-count.count in
    let got = c.read.new.buf in
    record {
      taken = take n got;
      gave = c.in_ok-count.ensures.bytes.0;
      grown = grown b got 0 held (most_held - held) n (omega arith) within c.in_ok-count.ensures.within
          ∙ ap (λ l. l ++ take n got) (c.move_to_start.ensures ∙ c.self.view_is);
    }

pub returns-clause-few : goal.returns-clause-few
unfolding returns-clause-moves
returns-clause-few g c =
    let got = c.in_ok-count.ensures in
    let count = got.last_read ∙ sym (length-take-le c.in_ok-count.count c.read.new.buf got.within) in
    λ undecided. within_filled _ _ _ _ _ (returns-clause-moves g c) undecided count
