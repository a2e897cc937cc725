use Rattle.std.proofs.Common.{◌≡◌, ◌-◌, ◌<◌, suc, length, get_or, Some, None, sym, ap, ◌∙◌, subst, arith}
use Rattle.proof_tools.specs.Reach.{new_number}
use Rattle.proof_tools.proofs.Agreeing.{number_some, number_none}
use Rattle.proof_tools.proofs.reach.Reach.number.Goals as goal

pub returns-in-Some : goal.returns-in-Some
returns-in-Some c =
    let numbers = c.self.inside.numbers.items in
    let found = c.in-Some.ensures.lookup in
    let within = subst (λ ns. c.args.n - 1 < length ns) c.deref.ensures.value found.3.0 in
    let at = subst (λ ns. c.in-Some.number.now ≡ get_or ns (c.args.n - 1) c.in-Some.number.now) c.deref.ensures.value found.1 in
    subst (λ n. Some c.in-Some.number.now ≡ new_number c.args.self.now n) (let e : suc (c.args.n - 1) ≡ c.args.n = omega (arith, c.if-n-eq0.false) in e)
    (number_some numbers c.args.self.now c.self.view_is c.self.invariant (c.args.n - 1) c.in-Some.number.now within at (omega (arith, c.if-number-gt0.true)))

pub returns-in_default : goal.returns-in_default
returns-in_default c =
    let numbers = c.self.inside.numbers.items in
    let found = c.in-Some.ensures.lookup in
    let at = subst (λ ns. c.in-Some.number.now ≡ get_or ns (c.args.n - 1) c.in-Some.number.now) c.deref.ensures.value found.1 in
    let none : c.in-Some.number.now ≡ 0 = omega (arith, c.if-number-gt0.false) in
    subst (λ n. None ≡ new_number c.args.self.now n) (let e : suc (c.args.n - 1) ≡ c.args.n = omega (arith, c.if-n-eq0.false) in e)
    (number_none numbers c.args.self.now c.self.view_is c.self.invariant (c.args.n - 1)
    (λ low. sym (subst (λ k. k ≡ get_or numbers (c.args.n - 1) k) none at)))
