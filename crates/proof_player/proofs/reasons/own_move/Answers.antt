use Rattle.std.proofs.Common.{◌≡◌, ◌<◌, length, Some, ap, ◌∙◌, arith}
use Rattle.game_rules.specs.Board.{Board}
use Rattle.proof_book.specs.Shape.{cite_of}
use Rattle.proof_book.specs.Entries.{reason_held}
use Rattle.proof_player.proofs.Settled.{one_within}
use Rattle.proof_player.proofs.reasons.own_move.Goals as goal

pub seen_column-requires : goal.seen_column-requires
seen_column-requires c =
    let q = c.args.now.now in
    let board = c.settled-reason.result.1 in
    let is = c.settled-reason.ensures.is ∙ ap (λ held. Some (reason_held held, board)) c.in-One.is in
    let low : c.in-One.cite.column < length q.columns =
    one_within c.args.book.now c.args.lemma c.args.turned board q (cite_of c.in-One.cite) c.requires is in
    let cols : c.size.result.cols ≡ length q.columns = ap (λ (b : Board). b.cols) c.size.ensures.value in
    omega (arith, low, cols)
