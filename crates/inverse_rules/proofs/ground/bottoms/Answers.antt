use Rattle.std.proofs.Common.{map, ap, ◌∙◌, arith}
use Rattle.std.proofs.lemmas.Grind.{common_steps}
use Rattle.std.proofs.lemmas.List.{take_all}
use Rattle.plan_rules.proofs.Bottoms.{bottom_over, all_bottoms}
use Rattle.plan_rules.proofs.Sites.{these_playable}
use Rattle.inverse_rules.proofs.ground.bottoms.Goals as goal

pub bottom_over-requires : goal.bottom_over-requires
bottom_over-requires c =
    let all = these_playable c.args.p.now c.as_slice-playable-items.result.now (c.as_slice-playable-items.ensures.value ∙ c.playables-playables.ensures) in
    grind (arith, common_steps, all, c.loop-playable-test.true, c.playable-item.is)

pub returns : goal.returns
returns c =
    c.loop-playable.invariant
    ∙ ap (map bottom_over) (take_all c.loop-playable.playable-index c.as_slice-playable-items.result.now c.loop-playable-test.false
    ∙ c.as_slice-playable-items.ensures.value ∙ c.playables-playables.ensures)
    ∙ all_bottoms c.args.p.now c.has_a_board.ensures.board
