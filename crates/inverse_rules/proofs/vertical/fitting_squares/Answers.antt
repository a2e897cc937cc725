use Rattle.std.proofs.Common.{◌+◌, ◌&&◌, not, nat_le, ap, ◌∙◌}
use Rattle.game_rules.specs.Squares.{has_square, is_empty}
use Rattle.game_rules.proofs.Squares.{set_same}
use Rattle.plan_rules.proofs.Sites.{two_empty, vertical_sites}
use Rattle.inverse_rules.proofs.vertical.fitting_squares.Goals as goal

pub returns : goal.returns
returns c = set_same _ _ c.without.result c.without.ensures (λ u.
    ap (λ b. b && not (has_square c.odd_rows.result u)) (c.intersection.ensures.has u)
    ∙ ap (λ b. (b && has_square c.lowered.result u) && not (has_square c.odd_rows.result u)) (c.empties-empties.ensures.has u)
    ∙ ap (λ b. (is_empty c.args.p.now u && b) && not (has_square c.odd_rows.result u)) (c.lowered.ensures.has u)
    ∙ ap (λ b. (is_empty c.args.p.now u && (nat_le 1 u.1 && b)) && not (has_square c.odd_rows.result u)) (c.empties-empties.ensures.has (u.0, u.1 + 1))
    ∙ ap (λ b. two_empty c.args.p.now u && not b) (c.odd_rows.ensures.has u)
    ∙ vertical_sites c.args.p.now u c.has_a_board.ensures.board)
