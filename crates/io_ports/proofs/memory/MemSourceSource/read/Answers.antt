use Rattle.std.proofs.Common.{◌≡◌, ◌-◌, ◌≤◌, length, take, drop, arith, ap, sym, ◌∙◌}
use Rattle.std.proofs.lemmas.List.{take_rest}
use Rattle.io_ports.proofs.Prefixes.{given_and_left, none_left}
use Rattle.io_ports.proofs.memory.MemSourceSource.read.Goals as goal

-- what was copied is the prefix of what was left
pub returns-clause-bytes : goal.returns-clause-bytes
returns-clause-bytes c =
    let bytes = c.self.inside.bytes.items in
    let at = c.self.inside.at in
    let held = c.deref.result.now in
    let n = c.min-count.result in
    let left = take (length held - at) (drop at held) in
    let here : left ≡ drop at bytes = take_rest held at ∙ ap (drop at) c.deref.ensures.value in
    let within : n ≤ length left = omega (arith, c.min-count.ensures) in (
      ap (λ source. source.left) (sym c.self.view_is) ∙ given_and_left bytes left c.copy_from_slice.new.self (drop n c.args.buf.now) at n here within
          c.copy_from_slice.ensures.after,
      λ none room. none_left bytes left at n here none (omega (arith, c.min-count.ensures, c.min.ensures, c.self.invariant.1)),
    )
