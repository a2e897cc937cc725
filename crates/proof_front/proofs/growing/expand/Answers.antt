use Rattle.std.proofs.Common.{◌∷◌, ap, ◌∙◌}
use Rattle.game_rules.specs.Cost.{centre_out}
use Rattle.proof_front.proofs.Expanding.{goes_on, too_short, leaves_below, expanded}
use Rattle.proof_front.proofs.growing.expand.Goals as goal

pub returns-then-is_short-clause-leaf : goal.returns-then-is_short-clause-leaf
returns-then-is_short-clause-leaf c node others owns =
    let centre = c.as_slice-columns.ensures.value ∙ (c.centre_out-order.ensures ∙ ap (λ b. centre_out b.cols) c.size.ensures.value) in
    too_short c.requires.leaf c.get.result.now c.get.ensures c.as_slice-columns.result.now centre node others owns c.args.asked.now.side c.args.asked.now.reach
    c.is_short.ensures c.if-is_short.true

pub place_leaves-first-requires-clause-going : goal.place_leaves-first-requires-clause-going
place_leaves-first-requires-clause-going c = goes_on c.requires.leaf c.get.result.now c.get.ensures

pub renew-requires-clause-below : goal.renew-requires-clause-below
renew-requires-clause-below c =
    let leaf = c.requires.leaf in
    let centre = c.as_slice-columns.ensures.value ∙ (c.centre_out-order.ensures ∙ ap (λ b. centre_out b.cols) c.size.ensures.value) in
    let first = c.place_leaves-first.ensures.placed ((c.args.at, leaf.node) ∷ leaf.others) leaf.owns in
    let order = c.as_slice-columns.result.now in let asked = c.args.asked.now in
    let lies = leaves_below leaf c.get.result.now c.get.ensures order centre leaf.node leaf.others leaf.owns asked.side asked.reach c.is_short.ensures first in
    record { node = leaf.node; kids = _; others = leaf.others; lies = lies }

pub returns-clause-leaf : goal.returns-clause-leaf
returns-clause-leaf c node others owns =
    let centre = c.as_slice-columns.ensures.value ∙ (c.centre_out-order.ensures ∙ ap (λ b. centre_out b.cols) c.size.ensures.value) in
    let first = c.place_leaves-first.ensures.placed ((c.args.at, node) ∷ others) owns in
    expanded c.requires.leaf c.get.result.now c.get.ensures c.as_slice-columns.result.now centre node others owns c.args.asked.now.side c.args.asked.now.reach
    c.is_short.ensures first c.if-is_short.false c.renew.ensures.done c.renew.ensures.renewed
