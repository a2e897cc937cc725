use Rattle.std.proofs.Common.{◌≡◌, ◌+◌, ◌≤◌, ◌++◌, true, length, sym, ap, ◌∙◌, subst}
use Rattle.std.specs.List.{list_all}
use Rattle.plan_rules.specs.Rules.{claimeven, fits}
use Rattle.plan_rules.specs.Listing.{fitting}
use Rattle.plan_rules.proofs.Sites.{every_site, all_sites, claimeven_site}
use Rattle.claimeven.proofs.claimeven.push_claimevens.Goals as goal

pub list_fitting-requires-clause-sites : goal.list_fitting-requires-clause-sites
list_fitting-requires-clause-sites g c =
    let sites = c.as_slice.ensures.value ∙ c.squares-lowers.ensures in
    subst (λ us. list_all (λ u. fits (claimeven u) c.args.p.now) us ≡ true) (sym sites) (every_site claimeven c.args.p.now c.lowers.result c.lowers.ensures)

pub list_fitting-requires-clause-room : goal.list_fitting-requires-clause-room
list_fitting-requires-clause-room g c =
    let sites = ap (fitting claimeven c.args.p.now) (c.as_slice.ensures.value ∙ c.squares-lowers.ensures) in
    let whole = all_sites claimeven c.args.p.now c.lowers.result c.has_a_board.ensures.board (claimeven_site c.args.p.now) c.lowers.ensures in
    subst (λ ws. length (g.T.Taker.taken c.args.taker.now) + length ws ≤ g.T.Taker.room c.args.taker.now) (sym (sites ∙ whole)) c.requires

pub returns-clause-taken : goal.returns-clause-taken
returns-clause-taken g c =
    let sites = ap (fitting claimeven c.args.p.now) (c.as_slice.ensures.value ∙ c.squares-lowers.ensures) in
    let whole = all_sites claimeven c.args.p.now c.lowers.result c.has_a_board.ensures.board (claimeven_site c.args.p.now) c.lowers.ensures in
    c.list_fitting.ensures.taken ∙ ap (λ ws. g.T.Taker.taken c.args.taker.now ++ ws) (sites ∙ whole)
