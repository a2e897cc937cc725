use Rattle.std.proofs.Common.{◌∙◌, arith}
use Rattle.std.proofs.lemmas.Grind.{common_steps}
use Rattle.plan_rules.proofs.Bottoms.{these_bottoms}
use Rattle.inverse_rules.proofs.lowinverse.columns_over_bottoms.Goals as goal

pub push_columns_over-requires-clause-bottom : goal.push_columns_over-requires-clause-bottom
push_columns_over-requires-clause-bottom c =
    let all = these_bottoms c.args.p.now c.as_slice-bottom-items.result.now (c.as_slice-bottom-items.ensures.value ∙ c.bottoms-bottoms.ensures) in
    grind (arith, common_steps, all, c.loop-bottom-test.true, c.bottom-item.is)
