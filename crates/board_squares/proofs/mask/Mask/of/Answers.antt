use Rattle.std.proofs.Common.{[], ◌+◌, false, subst, take, refl, ap, ◌∙◌, ◌||◌}
use Rattle.std.proofs.lemmas.List.{take_all}
use Rattle.game_rules.specs.Squares.{same_square, has_square, IsSetOf}
use Rattle.game_rules.proofs.Squares.{set_same, same_square_is}
use Rattle.game_rules.proofs.Passing.{one_more}
use Rattle.board_squares.proofs.mask.Mask.of.Goals as goal

pub loop-square-init : goal.loop-square-init
loop-square-init c = set_same (λ _. false) (has_square []) c.empty-mask.result c.empty-mask.ensures (λ u. refl)

pub loop-square-preserved : goal.loop-square-preserved
loop-square-preserved c = set_same _ (has_square (take (c.loop-square.square-index + 1) c.args.squares.now)) c.with-mask.result c.with-mask.ensures (λ u.
    ap (λ b. same_square u c.square-item.result || b) (c.loop-square.invariant.has u)
    ∙ one_more same_square same_square_is c.args.squares.now c.loop-square.square-index c.square-item.result c.loop-square-test.true c.square-item.is u)

pub returns : goal.returns
returns c = subst (λ us. IsSetOf (has_square us) c.loop-square.mask) (take_all c.loop-square.square-index c.args.squares.now c.loop-square-test.false)
    c.loop-square.invariant
