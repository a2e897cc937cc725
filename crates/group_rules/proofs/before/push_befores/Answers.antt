use Rattle.std.proofs.Common.{◌+◌, ◌≤◌, ◌++◌, length, sym, ap, ◌∙◌, subst}
use Rattle.plan_rules.specs.Rules.{before}
use Rattle.plan_rules.proofs.Grounds.{fits_more}
use Rattle.plan_rules.proofs.Before.{low_open}
use Rattle.plan_rules.proofs.LineSites.{open_sites, all_open}
use Rattle.group_rules.proofs.before.push_befores.Goals as goal

pub list_fitting-requires-clause-sites : goal.list_fitting-requires-clause-sites
list_fitting-requires-clause-sites g c = open_sites c.args.p.now c.as_slice.result.now (c.as_slice.ensures.value ∙ c.groups-groups.ensures
    ∙ c.free_for.ensures.in_order)

pub list_fitting-requires-clause-room : goal.list_fitting-requires-clause-room
list_fitting-requires-clause-room g c =
    let p = c.args.p.now in
    let whole = all_open before p c.as_slice.result.now (λ g good. low_open p g (fits_more (before g) p good))
    (c.as_slice.ensures.value ∙ c.groups-groups.ensures ∙ c.free_for.ensures.in_order) in
    subst (λ ws. length (g.T.Taker.taken c.args.taker.now) + length ws ≤ g.T.Taker.room c.args.taker.now) (sym whole) c.requires

pub returns-clause-taken : goal.returns-clause-taken
returns-clause-taken g c =
    let p = c.args.p.now in
    let whole = all_open before p c.as_slice.result.now (λ g good. low_open p g (fits_more (before g) p good))
    (c.as_slice.ensures.value ∙ c.groups-groups.ensures ∙ c.free_for.ensures.in_order) in
    c.list_fitting.ensures.taken ∙ ap (λ ws. g.T.Taker.taken c.args.taker.now ++ ws) whole
