use Rattle.std.proofs.Common.{◌≡◌, length, sym, ap, ◌∙◌, arith}
use Rattle.cert_checker.specs.Shown.{AllShown}
use Rattle.cert_checker.proofs.Shown.{shown_count}
use Rattle.cert_checker.proofs.known.Known.len.Goals as goal

pub returns : goal.returns
returns c =
    let a = c.self.inside in
    let count : length c.args.self.now.shown ≡ length a.claims.items =
    ap (λ (s : AllShown). length s.shown) (sym c.self.view_is) ∙ shown_count a.size a.men.items a.claims.items c.self.invariant.same_length in
    omega (arith, c.len.ensures)
