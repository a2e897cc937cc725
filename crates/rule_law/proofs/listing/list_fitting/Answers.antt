use Rattle.std.proofs.Common.{◌+◌, ◌≤◌, ◌++◌, List, length, sym, ap, ◌∙◌, arith}
use Rattle.std.specs.List.{flat_map}
use Rattle.std.proofs.lemmas.List.{take_all}
use Rattle.plan_rules.specs.Rules.{RuleInstance}
use Rattle.plan_rules.specs.Listing.{if_fits}
use Rattle.plan_rules.proofs.Fitting.{room_for_one, fitting_parts}
use Rattle.rule_law.proofs.listing.list_fitting.Goals as goal

pub take_fitting-requires-clause-room : goal.take_fitting-requires-clause-room
take_fitting-requires-clause-room g c =
    let adds : _ → List RuleInstance = λ site. if_fits c.args.p.now (g.R.Listed.written site) in
    let room : length (g.T.Taker.taken c.args.taker.now) + length (flat_map adds c.args.sites.now) ≤ g.T.Taker.room c.loop-site.taker
    = omega (arith, c.requires.room, ap length (fitting_parts g.R.Listed.written c.args.p.now c.args.sites.now), c.loop-site.invariant.1) in
    room_for_one adds (g.T.Taker.taken c.args.taker.now) (g.T.Taker.taken c.loop-site.taker) c.args.sites.now c.loop-site.site-index c.site-item.result
    (g.T.Taker.room c.loop-site.taker) c.loop-site-test.true c.site-item.is c.loop-site.invariant.0 room

pub returns-clause-taken : goal.returns-clause-taken
returns-clause-taken g c =
    c.loop-site.invariant.0
    ∙ ap (λ xs. g.T.Taker.taken c.args.taker.now ++ flat_map (λ site. if_fits c.args.p.now (g.R.Listed.written site)) xs)
    (take_all c.loop-site.site-index c.args.sites.now c.loop-site-test.false)
    ∙ ap (λ ws. g.T.Taker.taken c.args.taker.now ++ ws) (sym (fitting_parts g.R.Listed.written c.args.p.now c.args.sites.now))
