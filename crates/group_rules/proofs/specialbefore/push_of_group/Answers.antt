use Rattle.std.proofs.Common.{◌+◌, ◌≤◌, ◌++◌, length, append-nil, sym, ap, ◌∙◌, subst}
use Rattle.plan_rules.specs.Listing.{playable_squares, each_with}
use Rattle.plan_rules.proofs.SpecialSites.{outside_are, inside_are, special_sites, special_pairs, special_none}
use Rattle.group_rules.proofs.specialbefore.push_of_group.Goals as goal

pub list_pairs_beside-requires-clause-sites : goal.list_pairs_beside-requires-clause-sites
list_pairs_beside-requires-clause-sites g c =
    let p = c.args.p.now in let line = c.args.g in let h = c.has_a_board.ensures.board in
    let first = c.as_slice.ensures.value ∙ c.squares-outside.ensures
    ∙ outside_are p line _ _ c.without.result h c.requires.playables c.group_mask-squares.ensures c.without.ensures in
    let second = c.as_slice-then-is_low_where_free.ensures.value ∙ c.squares-inside.ensures ∙ inside_are p line _ _ c.intersection.result h c.requires.playables
    c.group_mask-squares.ensures c.intersection.ensures in
    special_sites p line c.as_slice.result.now c.as_slice-then-is_low_where_free.result.now (sym c.is_low_where_free.ensures ∙ c.if-is_low_where_free.true)
    first second

pub list_pairs_beside-requires-clause-room : goal.list_pairs_beside-requires-clause-room
list_pairs_beside-requires-clause-room g c =
    let p = c.args.p.now in let line = c.args.g in let h = c.has_a_board.ensures.board in
    let first = c.as_slice.ensures.value ∙ c.squares-outside.ensures
    ∙ outside_are p line _ _ c.without.result h c.requires.playables c.group_mask-squares.ensures c.without.ensures in
    let second = c.as_slice-then-is_low_where_free.ensures.value ∙ c.squares-inside.ensures ∙ inside_are p line _ _ c.intersection.result h c.requires.playables
    c.group_mask-squares.ensures c.intersection.ensures in
    subst (λ ws. length (g.T.Taker.taken c.args.taker.now) + length ws ≤ g.T.Taker.room c.args.taker.now)
    (sym (special_pairs p line c.as_slice.result.now c.as_slice-then-is_low_where_free.result.now first second)) c.requires.room

pub returns-then-is_low_where_free-clause-taken : goal.returns-then-is_low_where_free-clause-taken
returns-then-is_low_where_free-clause-taken g c =
    let p = c.args.p.now in let line = c.args.g in let h = c.has_a_board.ensures.board in
    let first = c.as_slice.ensures.value ∙ c.squares-outside.ensures
    ∙ outside_are p line _ _ c.without.result h c.requires.playables c.group_mask-squares.ensures c.without.ensures in
    let second = c.as_slice-then-is_low_where_free.ensures.value ∙ c.squares-inside.ensures ∙ inside_are p line _ _ c.intersection.result h c.requires.playables
    c.group_mask-squares.ensures c.intersection.ensures in
    c.list_pairs_beside.ensures.taken
    ∙ ap (λ ws. g.T.Taker.taken c.args.taker.now ++ ws) (special_pairs p line c.as_slice.result.now c.as_slice-then-is_low_where_free.result.now first second)

pub returns-else-is_low_where_free-clause-taken : goal.returns-else-is_low_where_free-clause-taken
returns-else-is_low_where_free-clause-taken g c =
    sym (append-nil (g.T.Taker.taken c.args.taker.now))
    ∙ ap (λ ws. g.T.Taker.taken c.args.taker.now ++ ws)
    (sym (special_none c.args.p.now c.args.g (each_with (playable_squares c.args.p.now) (playable_squares c.args.p.now))
    (sym c.is_low_where_free.ensures ∙ c.if-is_low_where_free.false)))
