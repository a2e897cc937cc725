use Rattle.std.proofs.Common.{◌≡◌, ◌<◌, ◌==◌, length, is_some, sym, ap, ◌∙◌, subst, arith}
use Rattle.std.specs.List.{find}
use Rattle.std.specs.Option.{option_map}
use Rattle.game_rules.specs.Board.{Board}
use Rattle.game_rules.specs.Position.{Position}
use Rattle.game_rules.proofs.Ends.{legal_parts}
use Rattle.game_rules.proofs.Moves.{room_column}
use Rattle.proof_book.specs.Cite.{Cite}
use Rattle.follow_text.specs.Following.{seen_column, own_move_at}
use Rattle.proof_player.specs.Playing.{StandsAt, step_of}
use Rattle.proof_player.proofs.Answered.{mapped_some, is_cited, by_cite}
use Rattle.proof_player.proofs.place.answer_by_all.Goals as goal

pub seen_column-there-requires : goal.seen_column-there-requires
seen_column-there-requires c =
    let q = c.args.before.now in
    let low : c.args.c < length q.columns = room_column q c.args.c (legal_parts q c.args.c c.requires.legal).1 in
    let cols : c.size.result.cols ≡ length q.columns = ap (λ (b : Board). b.cols) c.size.ensures.value in
    omega (arith, low, cols)

pub unwrap-cite-requires : goal.unwrap-cite-requires
unwrap-cite-requires c =
    let there = c.seen_column-there.ensures ∙ ap (λ (b : Board). seen_column c.args.turned b.cols c.args.c) c.size.ensures.value in
    ap is_some (c.cite_for.ensures ∙ ap (λ n. find (λ (cite : Cite). cite.column == n) c.args.cites.now) there)
    ∙ is_cited c.args.book.now c.args.cites.now c.args.turned c.args.before.now c.args.c c.requires

pub after-now-requires : goal.after-now-requires
after-now-requires c = (legal_parts c.args.before.now c.args.c c.requires.legal).1

pub own_move-requires : goal.own_move-requires
own_move-requires c =
    let there = c.seen_column-there.ensures ∙ ap (λ (b : Board). seen_column c.args.turned b.cols c.args.c) c.size.ensures.value in
    let first = ap (λ n. find (λ (cite : Cite). cite.column == n) c.args.cites.now) (sym there) ∙ sym c.cite_for.ensures ∙ c.unwrap-cite.ensures in
    subst (StandsAt c.args.book.now c.unwrap-cite.result.lemma c.args.turned) (sym c.after-now.ensures)
    (by_cite c.args.book.now c.args.cites.now c.args.turned c.args.before.now c.args.c c.unwrap-cite.result c.requires first).stands

pub unwrap-step-requires : goal.unwrap-step-requires
unwrap-step-requires c =
    let there = c.seen_column-there.ensures ∙ ap (λ (b : Board). seen_column c.args.turned b.cols c.args.c) c.size.ensures.value in
    let first = ap (λ n. find (λ (cite : Cite). cite.column == n) c.args.cites.now) (sym there) ∙ sym c.cite_for.ensures ∙ c.unwrap-cite.ensures in
    mapped_some step_of c.own_move.result (ap is_some (c.own_move.ensures
    ∙ ap (λ (p : Position). own_move_at c.args.book.now (length p.columns) c.unwrap-cite.result.lemma c.args.turned) c.after-now.ensures)
    ∙ (by_cite c.args.book.now c.args.cites.now c.args.turned c.args.before.now c.args.c c.unwrap-cite.result c.requires first).some)

pub returns-clause-answer : goal.returns-clause-answer
returns-clause-answer c =
    let there = c.seen_column-there.ensures ∙ ap (λ (b : Board). seen_column c.args.turned b.cols c.args.c) c.size.ensures.value in
    let first = ap (λ n. find (λ (cite : Cite). cite.column == n) c.args.cites.now) (sym there) ∙ sym c.cite_for.ensures ∙ c.unwrap-cite.ensures in
    (by_cite c.args.book.now c.args.cites.now c.args.turned c.args.before.now c.args.c c.unwrap-cite.result c.requires first).same
    ∙ sym (c.own_move.ensures
    ∙ ap (λ (p : Position). own_move_at c.args.book.now (length p.columns) c.unwrap-cite.result.lemma c.args.turned) c.after-now.ensures)
    ∙ ap (option_map step_of) c.unwrap-step.ensures
