use Rattle.std.proofs.Common.{◌||◌, [], ◌∷◌, refl, ap, ◌∙◌}
use Rattle.game_rules.specs.Board.{Board}
use Rattle.game_rules.specs.Position.{board_of}
use Rattle.game_rules.specs.Squares.{has_square, is_empty, IsSetOf}
use Rattle.game_rules.specs.Groups.{group_on}
use Rattle.game_rules.specs.declared.Way.{Way}
use Rattle.open_groups.specs.AnchorFields.{anchors_along}
use Rattle.open_groups.proofs.Anchors.{anchored_set, determined_anchors}
use Rattle.open_groups.proofs.Free.{is_open, open_lies, each_open}
use Rattle.open_groups.proofs.group_set.free_for.Goals as goal
use Rattle.open_groups.proofs.group_set.free_for.Goals.{After-line_starts-4}

each : (c : After-line_starts-4) → (way : Way) → IsSetOf (λ s. is_open c.args.p.now c.args.side (group_on (board_of c.args.p.now) way s))
    (anchors_along (c.line_starts.result ∷ c.line_starts-2.result ∷ c.line_starts-3.result ∷ c.line_starts-4.result ∷ []) way)
each c =
    let clear = c.union-clear.result in
    let length_is = c.length-len.ensures ∙ ap (λ (b : Board). b.len) c.size-size.ensures.value in
    each_open c.args.p.now c.args.side c.size-size.ensures.stacked clear
    (λ u. c.union-clear.ensures.has u ∙ ap (λ b. b || has_square c.men.result u) (c.empties.ensures.has u)
    ∙ ap (λ b. is_empty c.args.p.now u || b) (c.men.ensures.has u))
    c.line_starts.result c.line_starts-2.result c.line_starts-3.result c.line_starts-4.result
    (rw (← length_is) c.line_starts.ensures) (rw (← length_is) c.line_starts-2.ensures) (rw (← length_is) c.line_starts-3.ensures)
    (rw (← length_is) c.line_starts-4.ensures)

pub invariant_of-result : goal.invariant_of-result
invariant_of-result c = rw c.size-size.ensures.value (record {
  board = c.size-size.ensures.board;
  determined = determined_anchors (board_of c.args.p.now) _ refl (is_open c.args.p.now c.args.side) (open_lies c.args.p.now c.args.side) (each c);
})

pub returns : goal.returns
returns c = rw c.size-size.ensures.value (anchored_set (board_of c.args.p.now) _ refl (is_open c.args.p.now c.args.side) (open_lies c.args.p.now c.args.side)
    (each c))
