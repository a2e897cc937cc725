use Rattle.std.proofs.Common.{subst, ◌∙◌}
use Rattle.std.proofs.lemmas.List.{take_all}
use Rattle.game_rules.specs.Squares.{IsSetOf}
use Rattle.rule_chooser.specs.Standing.{is_of_twin}
use Rattle.rule_chooser.proofs.Twins.{twin_more}
use Rattle.rule_chooser.proofs.special.twin_squares.Goals as goal

pub loop-twin-preserved : goal.loop-twin-preserved
loop-twin-preserved c =
    twin_more c.as_slice-twin-items.result.now c.loop-twin.twin-index c.twin-item.result c.loop-twin.squares c.with.result c.with-squares.result
    c.loop-twin-test.true c.twin-item.is c.loop-twin.invariant c.with.ensures c.with-squares.ensures

pub returns : goal.returns
returns c = subst (λ twins. IsSetOf (is_of_twin twins) c.loop-twin.squares)
    (take_all c.loop-twin.twin-index c.as_slice-twin-items.result.now c.loop-twin-test.false ∙ c.as_slice-twin-items.ensures.value) c.loop-twin.invariant
