use Rattle.std.proofs.Common.{◌+◌, ◌≤◌, ◌++◌, List, length, sym, ap, subst, ◌∙◌, arith}
use Rattle.std.specs.List.{flat_map, list_all}
use Rattle.std.proofs.lemmas.List.{take_all}
use Rattle.game_rules.proofs.Lists.{Among, Among-at, all_gives}
use Rattle.plan_rules.specs.Rules.{RuleInstance}
use Rattle.plan_rules.specs.Listing.{fitting}
use Rattle.plan_rules.proofs.Fitting.{one_more, room_for_one, fitting_pairs}
use Rattle.rule_law.proofs.listing.list_pairs.Goals as goal

pub list_beside-requires-clause-sites : goal.list_beside-requires-clause-sites
list_beside-requires-clause-sites g c =
    all_gives (λ first. list_all (λ second. g.R.Listed.is_site c.args.p.now (first, second)) c.args.seconds.now) c.args.firsts.now c.first-item.result
    c.requires.sites
    (subst (λ first. Among first c.args.firsts.now) (sym c.first-item.is)
    (Among-at c.args.firsts.now c.loop-first.first-index c.first-item.result c.loop-first-test.true))

pub list_beside-requires-clause-room : goal.list_beside-requires-clause-room
list_beside-requires-clause-room g c =
    let adds : _ → List RuleInstance = λ first. fitting (λ second. g.R.Listed.written (first, second)) c.args.p.now c.args.seconds.now in
    let room : length (g.T.Taker.taken c.args.taker.now) + length (flat_map adds c.args.firsts.now) ≤ g.T.Taker.room c.loop-first.taker
    = omega (arith, c.requires.room, ap length (fitting_pairs g.R.Listed.written c.args.p.now c.args.firsts.now c.args.seconds.now), c.loop-first.invariant.1)
    in
    room_for_one adds (g.T.Taker.taken c.args.taker.now) (g.T.Taker.taken c.loop-first.taker) c.args.firsts.now c.loop-first.first-index c.first-item.result
    (g.T.Taker.room c.loop-first.taker) c.loop-first-test.true c.first-item.is c.loop-first.invariant.0 room

pub loop-first-preserved : goal.loop-first-preserved
loop-first-preserved g c =
    let adds : _ → List RuleInstance = λ first. fitting (λ second. g.R.Listed.written (first, second)) c.args.p.now c.args.seconds.now in (
      c.list_beside.ensures.taken
          ∙ one_more adds (g.T.Taker.taken c.args.taker.now) (g.T.Taker.taken c.loop-first.taker) c.args.firsts.now c.loop-first.first-index c.first-item.result
          c.loop-first-test.true c.first-item.is c.loop-first.invariant.0,
      c.list_beside.ensures.room ∙ c.loop-first.invariant.1,
    )

pub returns-clause-taken : goal.returns-clause-taken
returns-clause-taken g c =
    c.loop-first.invariant.0
    ∙ ap (λ xs. g.T.Taker.taken c.args.taker.now ++ flat_map (λ first. fitting (λ second. g.R.Listed.written (first, second)) c.args.p.now c.args.seconds.now)
    xs) (take_all c.loop-first.first-index c.args.firsts.now c.loop-first-test.false)
    ∙ ap (λ ws. g.T.Taker.taken c.args.taker.now ++ ws) (sym (fitting_pairs g.R.Listed.written c.args.p.now c.args.firsts.now c.args.seconds.now))
