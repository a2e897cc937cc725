use Rattle.std.proofs.Common.{◌+◌, ◌≤◌, ◌++◌, List, length, sym, ap, ◌∙◌, arith}
use Rattle.std.specs.List.{flat_map}
use Rattle.std.proofs.lemmas.List.{take_all}
use Rattle.plan_rules.specs.Rules.{RuleInstance}
use Rattle.plan_rules.specs.Listing.{if_fits}
use Rattle.plan_rules.proofs.Fitting.{room_for_one, fitting_parts}
use Rattle.rule_law.proofs.listing.list_thirds.Goals as goal

pub take_fitting-requires-clause-room : goal.take_fitting-requires-clause-room
take_fitting-requires-clause-room g c =
    let adds : _ → List RuleInstance = λ third. if_fits c.args.p.now (g.R.Listed.written (c.args.first, (c.args.second, third))) in
    let room : length (g.T.Taker.taken c.args.taker.now) + length (flat_map adds c.args.thirds.now) ≤ g.T.Taker.room c.loop-third.taker
    = omega (
      arith,
      c.requires.room,
      ap length (fitting_parts (λ third. g.R.Listed.written (c.args.first, (c.args.second, third))) c.args.p.now c.args.thirds.now),
      c.loop-third.invariant.1,
    )
    in
    room_for_one adds (g.T.Taker.taken c.args.taker.now) (g.T.Taker.taken c.loop-third.taker) c.args.thirds.now c.loop-third.third-index c.third-item.result
    (g.T.Taker.room c.loop-third.taker) c.loop-third-test.true c.third-item.is c.loop-third.invariant.0 room

pub returns-clause-taken : goal.returns-clause-taken
returns-clause-taken g c =
    c.loop-third.invariant.0
    ∙ ap (λ xs. g.T.Taker.taken c.args.taker.now ++ flat_map (λ third. if_fits c.args.p.now (g.R.Listed.written (c.args.first, (c.args.second, third)))) xs)
    (take_all c.loop-third.third-index c.args.thirds.now c.loop-third-test.false)
    ∙ ap (λ ws. g.T.Taker.taken c.args.taker.now ++ ws)
    (sym (fitting_parts (λ third. g.R.Listed.written (c.args.first, (c.args.second, third))) c.args.p.now c.args.thirds.now))
