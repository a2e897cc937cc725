use Rattle.std.proofs.Common.{◌+◌, ◌≤◌, ◌++◌, length, sym, ap, ◌∙◌, subst}
use Rattle.plan_rules.specs.Listing.{is_bottom}
use Rattle.plan_rules.proofs.Bottoms.{these_bottoms, highinverse_sites}
use Rattle.plan_rules.proofs.Sites.{pairs_pass}
use Rattle.inverse_rules.proofs.highinverse.push_highinverses.Goals as goal

pub list_pairs-requires-clause-sites : goal.list_pairs-requires-clause-sites
list_pairs-requires-clause-sites g c =
    let p = c.args.p.now in
    pairs_pass (is_bottom p) (is_bottom p) c.as_slice.result.now c.as_slice-2.result.now
    (these_bottoms p c.as_slice.result.now (c.as_slice.ensures.value ∙ c.bottoms-bottoms.ensures))
    (these_bottoms p c.as_slice-2.result.now (c.as_slice-2.ensures.value ∙ c.bottoms-bottoms.ensures))

pub list_pairs-requires-clause-room : goal.list_pairs-requires-clause-room
list_pairs-requires-clause-room g c =
    let whole = highinverse_sites c.args.p.now c.as_slice.result.now c.as_slice-2.result.now (c.as_slice.ensures.value ∙ c.bottoms-bottoms.ensures)
    (c.as_slice-2.ensures.value ∙ c.bottoms-bottoms.ensures) in
    subst (λ ws. length (g.T.Taker.taken c.args.taker.now) + length ws ≤ g.T.Taker.room c.args.taker.now) (sym whole) c.requires

pub returns-clause-taken : goal.returns-clause-taken
returns-clause-taken g c =
    let whole = highinverse_sites c.args.p.now c.as_slice.result.now c.as_slice-2.result.now (c.as_slice.ensures.value ∙ c.bottoms-bottoms.ensures)
    (c.as_slice-2.ensures.value ∙ c.bottoms-bottoms.ensures) in
    c.list_pairs.ensures.taken ∙ ap (λ ws. g.T.Taker.taken c.args.taker.now ++ ws) whole
