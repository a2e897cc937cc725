use Rattle.std.proofs.Common.{◌+◌, ◌≤◌, ◌++◌, List, length, sym, ap, subst, ◌∙◌, arith}
use Rattle.std.specs.List.{flat_map, list_all}
use Rattle.std.proofs.lemmas.List.{take_all}
use Rattle.game_rules.proofs.Lists.{Among, Among-at, all_gives}
use Rattle.plan_rules.specs.Rules.{RuleInstance}
use Rattle.plan_rules.specs.Listing.{fitting}
use Rattle.plan_rules.proofs.Fitting.{one_more, room_for_one, fitting_pairs}
use Rattle.rule_law.proofs.listing.list_pairs_beside.Goals as goal

pub list_thirds-requires-clause-sites : goal.list_thirds-requires-clause-sites
list_thirds-requires-clause-sites g c =
    all_gives (λ second. list_all (λ third. g.R.Listed.is_site c.args.p.now (c.args.first, (second, third))) c.args.thirds.now) c.args.seconds.now
    c.second-item.result c.requires.sites
    (subst (λ second. Among second c.args.seconds.now) (sym c.second-item.is)
    (Among-at c.args.seconds.now c.loop-second.second-index c.second-item.result c.loop-second-test.true))

pub list_thirds-requires-clause-room : goal.list_thirds-requires-clause-room
list_thirds-requires-clause-room g c =
    let adds : _ → List RuleInstance = λ second. fitting (λ third. g.R.Listed.written (c.args.first, (second, third))) c.args.p.now c.args.thirds.now in
    let room : length (g.T.Taker.taken c.args.taker.now) + length (flat_map adds c.args.seconds.now) ≤ g.T.Taker.room c.loop-second.taker
    = omega (
      arith,
      c.requires.room,
      ap length (fitting_pairs (λ two. g.R.Listed.written (c.args.first, two)) c.args.p.now c.args.seconds.now c.args.thirds.now),
      c.loop-second.invariant.1,
    )
    in
    room_for_one adds (g.T.Taker.taken c.args.taker.now) (g.T.Taker.taken c.loop-second.taker) c.args.seconds.now c.loop-second.second-index
    c.second-item.result (g.T.Taker.room c.loop-second.taker) c.loop-second-test.true c.second-item.is c.loop-second.invariant.0 room

pub loop-second-preserved : goal.loop-second-preserved
loop-second-preserved g c =
    let adds : _ → List RuleInstance = λ second. fitting (λ third. g.R.Listed.written (c.args.first, (second, third))) c.args.p.now c.args.thirds.now in (
      c.list_thirds.ensures.taken
          ∙ one_more adds (g.T.Taker.taken c.args.taker.now) (g.T.Taker.taken c.loop-second.taker) c.args.seconds.now c.loop-second.second-index
          c.second-item.result c.loop-second-test.true c.second-item.is c.loop-second.invariant.0,
      c.list_thirds.ensures.room ∙ c.loop-second.invariant.1,
    )

pub returns-clause-taken : goal.returns-clause-taken
returns-clause-taken g c =
    c.loop-second.invariant.0
    ∙ ap (λ xs. g.T.Taker.taken c.args.taker.now
    ++ flat_map (λ second. fitting (λ third. g.R.Listed.written (c.args.first, (second, third))) c.args.p.now c.args.thirds.now) xs)
    (take_all c.loop-second.second-index c.args.seconds.now c.loop-second-test.false)
    ∙ ap (λ ws. g.T.Taker.taken c.args.taker.now ++ ws)
    (sym (fitting_pairs (λ two. g.R.Listed.written (c.args.first, two)) c.args.p.now c.args.seconds.now c.args.thirds.now))
