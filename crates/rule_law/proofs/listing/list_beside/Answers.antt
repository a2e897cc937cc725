use Rattle.std.proofs.Common.{◌+◌, ◌≤◌, ◌++◌, List, length, sym, ap, ◌∙◌, arith}
use Rattle.std.specs.List.{flat_map}
use Rattle.std.proofs.lemmas.List.{take_all}
use Rattle.plan_rules.specs.Rules.{RuleInstance}
use Rattle.plan_rules.specs.Listing.{if_fits}
use Rattle.plan_rules.proofs.Fitting.{room_for_one, fitting_parts}
use Rattle.rule_law.proofs.listing.list_beside.Goals as goal

pub take_fitting-requires-clause-room : goal.take_fitting-requires-clause-room
take_fitting-requires-clause-room g c =
    let adds : _ → List RuleInstance = λ second. if_fits c.args.p.now (g.R.Listed.written (c.args.first, second)) in
    let room : length (g.T.Taker.taken c.args.taker.now) + length (flat_map adds c.args.seconds.now) ≤ g.T.Taker.room c.loop-second.taker
    = omega (
      arith,
      c.requires.room,
      ap length (fitting_parts (λ second. g.R.Listed.written (c.args.first, second)) c.args.p.now c.args.seconds.now),
      c.loop-second.invariant.1,
    ) in
    room_for_one adds (g.T.Taker.taken c.args.taker.now) (g.T.Taker.taken c.loop-second.taker) c.args.seconds.now c.loop-second.second-index
    c.second-item.result (g.T.Taker.room c.loop-second.taker) c.loop-second-test.true c.second-item.is c.loop-second.invariant.0 room

pub returns-clause-taken : goal.returns-clause-taken
returns-clause-taken g c =
    c.loop-second.invariant.0
    ∙ ap (λ xs. g.T.Taker.taken c.args.taker.now ++ flat_map (λ second. if_fits c.args.p.now (g.R.Listed.written (c.args.first, second))) xs)
    (take_all c.loop-second.second-index c.args.seconds.now c.loop-second-test.false)
    ∙ ap (λ ws. g.T.Taker.taken c.args.taker.now ++ ws)
    (sym (fitting_parts (λ second. g.R.Listed.written (c.args.first, second)) c.args.p.now c.args.seconds.now))
