use Rattle.std.proofs.Common.{◌+◌, ◌-◌, ◌≤◌, ap, ◌∙◌, length, drop, arith}
use Rattle.std.proofs.lemmas.List.{length-take}
use Rattle.io_ports.proofs.Windows.{skipped}
use Rattle.io_ports.proofs.ahead.Ahead.skip.Goals as goal

pub returns : goal.returns
returns c =
    let s = c.self.inside in
    let inside : s.start + c.args.count ≤ s.end = omega (arith, c.requires, ap length c.self.view_is, length-take (s.end - s.start) (drop s.start s.buffer)) in
    skipped s.buffer s.start s.end c.args.count inside ∙ ap (drop c.args.count) c.self.view_is
