use Rattle.std.proofs.Common.{sym, ◌∙◌}
use Rattle.proof_front.proofs.Renewing.{kids_lie, kids_at, still_live, renewed_again, own_is}
use Rattle.proof_front.proofs.growing.renew.Goals as goal

pub numbers_of-numbers-requires-clause-row : goal.numbers_of-numbers-requires-clause-row
numbers_of-numbers-requires-clause-row c = let b = c.requires.below in (c.args.side, kids_at c.args.side b.node b.kids b.others b.lies)

pub kept_below-kept-requires : goal.kept_below-kept-requires
kept_below-kept-requires c = let b = c.requires.below in record { row = (c.args.side, kids_at c.args.side b.node b.kids b.others b.lies) }

pub set-requires : goal.set-requires
set-requires c =
    let b = c.requires.below in
    let kept = c.kept_below-kept.ensures in
    still_live c.args.side b.node b.kids b.others b.lies c.verdict-verdict.result (record { same = kept.kept; none = kept.none; freed = kept.freed })

pub returns-then-same-clause-renewed : goal.returns-then-same-clause-renewed
returns-then-same-clause-renewed c node kids others lies =
    let side = c.args.side in let kept = c.kept_below-kept.ensures in
    renewed_again side node kids others lies c.get-node.ensures (own_is side c.get-node.result.now.position c.eq.ensures c.to_move.ensures)
    (c.numbers_of-numbers.ensures side kids _ (kids_lie side node kids others lies))
    c.verdict-verdict.ensures (record { same = kept.kept; none = kept.none; freed = kept.freed }) c.set.ensures.set c.set.ensures.count
    (λ same. sym c.same.ensures ∙ c.if-same.true)

pub returns-else-same-clause-renewed : goal.returns-else-same-clause-renewed
returns-else-same-clause-renewed c node kids others lies =
    let side = c.args.side in let kept = c.kept_below-kept.ensures in
    renewed_again side node kids others lies c.get-node.ensures (own_is side c.get-node.result.now.position c.eq.ensures c.to_move.ensures)
    (c.numbers_of-numbers.ensures side kids _ (kids_lie side node kids others lies))
    c.verdict-verdict.ensures (record { same = kept.kept; none = kept.none; freed = kept.freed }) c.set.ensures.set c.set.ensures.count (λ same. cc)
