use Rattle.std.proofs.Common.{◌+◌, ◌≤◌, ◌++◌, length, sym, ap, ◌∙◌, subst}
use Rattle.plan_rules.proofs.Sites.{off_odd_rows, on_odd_row, playable_triples, kept_playable, playables_off, playables_on, baseclaim_sites}
use Rattle.base_rules.proofs.baseclaim.push_baseclaims.Goals as goal

pub list_triples-requires-clause-sites : goal.list_triples-requires-clause-sites
list_triples-requires-clause-sites g c =
    let p = c.args.p.now in let h = c.has_a_board.ensures.board in
    let all = c.as_slice.ensures.value ∙ c.playables.ensures in
    let evens = c.squares-evens.ensures ∙ playables_off p _ _ _ c.without.result h all c.of-playables.ensures c.odd_rows.ensures c.without.ensures in
    let odds = c.squares-odds.ensures ∙ playables_on p _ _ _ c.intersection.result h all c.of-playables.ensures c.odd_rows-2.ensures c.intersection.ensures in
    playable_triples p c.as_slice-2.result.now c.as_slice-3.result.now c.as_slice-4.result.now
    (kept_playable p off_odd_rows _ (c.as_slice-2.ensures.value ∙ evens))
    (kept_playable p on_odd_row _ (c.as_slice-3.ensures.value ∙ odds))
    (kept_playable p off_odd_rows _ (c.as_slice-4.ensures.value ∙ evens))

pub list_triples-requires-clause-room : goal.list_triples-requires-clause-room
list_triples-requires-clause-room g c =
    let p = c.args.p.now in let h = c.has_a_board.ensures.board in
    let all = c.as_slice.ensures.value ∙ c.playables.ensures in
    let evens = c.squares-evens.ensures ∙ playables_off p _ _ _ c.without.result h all c.of-playables.ensures c.odd_rows.ensures c.without.ensures in
    let odds = c.squares-odds.ensures ∙ playables_on p _ _ _ c.intersection.result h all c.of-playables.ensures c.odd_rows-2.ensures c.intersection.ensures in
    subst (λ ws. length (g.T.Taker.taken c.args.taker.now) + length ws ≤ g.T.Taker.room c.args.taker.now)
    (sym (baseclaim_sites p _ _ _ h (c.as_slice-2.ensures.value ∙ evens) (c.as_slice-3.ensures.value ∙ odds) (c.as_slice-4.ensures.value ∙ evens)))
    c.requires

pub returns-clause-taken : goal.returns-clause-taken
returns-clause-taken g c =
    let p = c.args.p.now in let h = c.has_a_board.ensures.board in
    let all = c.as_slice.ensures.value ∙ c.playables.ensures in
    let evens = c.squares-evens.ensures ∙ playables_off p _ _ _ c.without.result h all c.of-playables.ensures c.odd_rows.ensures c.without.ensures in
    let odds = c.squares-odds.ensures ∙ playables_on p _ _ _ c.intersection.result h all c.of-playables.ensures c.odd_rows-2.ensures c.intersection.ensures in
    c.list_triples.ensures.taken ∙ ap (λ ws. g.T.Taker.taken c.args.taker.now ++ ws)
    (baseclaim_sites p _ _ _ h (c.as_slice-2.ensures.value ∙ evens) (c.as_slice-3.ensures.value ∙ odds) (c.as_slice-4.ensures.value ∙ evens))
