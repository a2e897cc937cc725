use Rattle.std.proofs.Common.{subst}
use Rattle.std.specs.List.{flat_map}
use Rattle.std.proofs.lemmas.List.{take_all}
use Rattle.game_rules.specs.Squares.{has_square, IsSetOf}
use Rattle.plan_rules.specs.Rules.{pair_of}
use Rattle.rule_compat.specs.Written.{written_list}
use Rattle.rule_compat.proofs.KeptLists.{set_more}
use Rattle.rule_compat.proofs.facts.pairs.Goals as goal

pub loop-instance-preserved : goal.loop-instance-preserved
loop-instance-preserved c =
    set_more pair_of c.args.list.now c.loop-instance.instance-index c.instance-item.result c.loop-instance.squares c.pair.result c.union-squares.result
    c.loop-instance-test.true c.instance-item.is
    c.loop-instance.invariant c.pair.ensures c.union-squares.ensures

pub returns : goal.returns
returns c = subst (λ xs. IsSetOf (has_square (flat_map pair_of (written_list xs))) c.loop-instance.squares)
    (take_all c.loop-instance.instance-index c.args.list.now c.loop-instance-test.false) c.loop-instance.invariant
