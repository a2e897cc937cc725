use Rattle.std.proofs.Common.{◌≡◌, ◌-◌, slice_range, sym, ap, ◌∙◌, subst, arith}
use Rattle.io_ports.proofs.Windows.{moved}
use Rattle.io_ports.proofs.ahead.move_to_start.Goals as goal

pub returns : goal.returns
returns c =
    let b = c.args.buffer.now in
    ap (λ buffer. slice_range buffer 0 (c.args.end - c.args.start)) c.copy_within.ensures.after
    ∙ moved b c.args.start c.args.end c.requires.ordered (omega (arith, c.requires.within))
