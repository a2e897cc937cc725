use Rattle.std.proofs.Common.{◌≡◌, ◌+◌, ◌≤◌, ◌++◌, true, length, sym, ap, ◌∙◌, subst}
use Rattle.std.specs.List.{list_all}
use Rattle.plan_rules.specs.Rules.{vertical, fits}
use Rattle.plan_rules.specs.Listing.{fitting}
use Rattle.plan_rules.proofs.Sites.{every_site, all_sites, vertical_site}
use Rattle.inverse_rules.proofs.vertical.push_verticals.Goals as goal

pub list_fitting-requires-clause-sites : goal.list_fitting-requires-clause-sites
list_fitting-requires-clause-sites g c =
    let sites = c.as_slice.ensures.value ∙ c.squares-squares.ensures in
    subst (λ us. list_all (λ u. fits (vertical u) c.args.p.now) us ≡ true) (sym sites)
    (every_site vertical c.args.p.now c.fitting_squares.result c.fitting_squares.ensures)

pub list_fitting-requires-clause-room : goal.list_fitting-requires-clause-room
list_fitting-requires-clause-room g c =
    let sites = ap (fitting vertical c.args.p.now) (c.as_slice.ensures.value ∙ c.squares-squares.ensures) in
    let whole = all_sites vertical c.args.p.now c.fitting_squares.result c.has_a_board.ensures.board (vertical_site c.args.p.now) c.fitting_squares.ensures in
    subst (λ ws. length (g.T.Taker.taken c.args.taker.now) + length ws ≤ g.T.Taker.room c.args.taker.now) (sym (sites ∙ whole)) c.requires

pub returns-clause-taken : goal.returns-clause-taken
returns-clause-taken g c =
    let sites = ap (fitting vertical c.args.p.now) (c.as_slice.ensures.value ∙ c.squares-squares.ensures) in
    let whole = all_sites vertical c.args.p.now c.fitting_squares.result c.has_a_board.ensures.board (vertical_site c.args.p.now) c.fitting_squares.ensures in
    c.list_fitting.ensures.taken ∙ ap (λ ws. g.T.Taker.taken c.args.taker.now ++ ws) (sites ∙ whole)
