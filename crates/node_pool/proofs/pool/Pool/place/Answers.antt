use Rattle.std.proofs.Common.{◌≡◌, ◌<◌, length, refl, sym, ap, ◌∙◌, arith}
use Rattle.std.proofs.lemmas.Option.{none-some}
use Rattle.std.proofs.lemmas.List.{append-nil}
use Rattle.node_pool.proofs.Kept.{count_is, not_full, is_full, unused, value_pushed, one_pushed, kept_pushed, again_used, again_empty, value_again, one_again}
use Rattle.node_pool.proofs.Kept.{kept_again}
use Rattle.node_pool.proofs.pool.Pool.place.Goals as goal

pub invariant_of-self : goal.invariant_of-self
invariant_of-self g c =
    rw c.pop.ensures.capacity (kept_again c.self.invariant c.pop.new.self.items c.in-Some.number c.in-Some.ensures.items _)

pub returns-in-Some-clause-full : goal.returns-in-Some-clause-full
returns-in-Some-clause-full g c = (
  λ e. absurd (none-some c.new.result (sym e)),
  λ full. absurd (not_full c.self.invariant (omega (arith, c.self.invariant.used, c.in-Some.ensures.len)) (rw c.self.view_is full)),
)

pub returns-in-Some-clause-within : goal.returns-in-Some-clause-within
returns-in-Some-clause-within g c =
    omega (
      arith,
      c.new.ensures,
      ap length c.self.view_is,
      count_is c.self.invariant,
      c.self.invariant.used,
      again_used c.self.invariant c.pop.new.self.items c.in-Some.number c.in-Some.ensures.items,
    )

pub returns-in-Some-clause-free : goal.returns-in-Some-clause-free
returns-in-Some-clause-free g c =
    rw (c.new.ensures, ← c.self.view_is) (again_empty c.self.invariant c.pop.new.self.items c.in-Some.number c.in-Some.ensures.items)

pub returns-in-Some-clause-placed : goal.returns-in-Some-clause-placed
returns-in-Some-clause-placed g c =
    rw (c.new.ensures, ← c.self.view_is) (value_again c.self.invariant c.pop.new.self.items c.in-Some.number c.in-Some.ensures.items c.args.value)

pub returns-in-Some-clause-count : goal.returns-in-Some-clause-count
returns-in-Some-clause-count g c =
    rw (← c.self.view_is) (one_again c.self.invariant c.pop.new.self.items c.in-Some.number c.in-Some.ensures.items c.args.value)

pub returns-then-used-self-clause-full : goal.returns-then-used-self-clause-full
returns-then-used-self-clause-full g c = (
  λ e. rw (← c.self.view_is)
      (is_full c.self.invariant (omega (arith, c.len-used.ensures, c.if-used-self.true)) (omega (arith, c.in_default.ensures.cases))),
  λ full. refl,
)

pub invariant_of-self-2 : goal.invariant_of-self-2
invariant_of-self-2 g c =
    let same : c.pop.new.self.items ≡ c.self.inside.free.items = sym (c.in_default.ensures.items ∙ append-nil c.pop.new.self.items) in
    let some : length c.self.inside.values.items < c.self.inside.slots =
    omega (arith, c.self.invariant.used, c.len-used.ensures, c.if-used-self.false) in
    rw (c.push_reserved.ensures.items, c.push_reserved.ensures.capacity, c.pop.ensures.capacity, same)
    (kept_pushed c.self.invariant _ some)

pub returns-clause-full : goal.returns-clause-full
returns-clause-full g c =
    let some : length c.self.inside.values.items < c.self.inside.slots =
    omega (arith, c.self.invariant.used, c.len-used.ensures, c.if-used-self.false) in
    (λ e. absurd (none-some c.new-2.result (sym e)), λ full. absurd (not_full c.self.invariant (omega (arith, some)) (rw c.self.view_is full)))

pub returns-clause-within : goal.returns-clause-within
returns-clause-within g c =
    let some : length c.self.inside.values.items < c.self.inside.slots =
    omega (arith, c.self.invariant.used, c.len-used.ensures, c.if-used-self.false) in
    let at : c.new-2.result ≡ length c.self.inside.values.items = omega (arith, c.new-2.ensures, c.len-used.ensures) in
    omega (arith, at, some, ap length c.self.view_is, count_is c.self.invariant)

pub returns-clause-free : goal.returns-clause-free
returns-clause-free g c =
    let some : length c.self.inside.values.items < c.self.inside.slots =
    omega (arith, c.self.invariant.used, c.len-used.ensures, c.if-used-self.false) in
    let at : c.new-2.result ≡ length c.self.inside.values.items = omega (arith, c.new-2.ensures, c.len-used.ensures) in
    rw (at, ← c.self.view_is) (unused c.self.invariant some)

pub returns-clause-placed : goal.returns-clause-placed
returns-clause-placed g c =
    let same : c.pop.new.self.items ≡ c.self.inside.free.items = sym (c.in_default.ensures.items ∙ append-nil c.pop.new.self.items) in
    let some : length c.self.inside.values.items < c.self.inside.slots =
    omega (arith, c.self.invariant.used, c.len-used.ensures, c.if-used-self.false) in
    let at : c.new-2.result ≡ length c.self.inside.values.items = omega (arith, c.new-2.ensures, c.len-used.ensures) in
    rw (at, ← c.self.view_is, c.push_reserved.ensures.items, same) (value_pushed c.self.invariant c.args.value some)

pub returns-clause-count : goal.returns-clause-count
returns-clause-count g c =
    let same : c.pop.new.self.items ≡ c.self.inside.free.items = sym (c.in_default.ensures.items ∙ append-nil c.pop.new.self.items) in
    let some : length c.self.inside.values.items < c.self.inside.slots =
    omega (arith, c.self.invariant.used, c.len-used.ensures, c.if-used-self.false) in
    rw (← c.self.view_is, c.push_reserved.ensures.items, same) (one_pushed c.self.invariant c.args.value some)
