use Rattle.std.proofs.Common.{sym, ap, ◌∙◌, subst}
use Rattle.board_bits.specs.MenNumber.{position_read, AreMen}
use Rattle.position_key.specs.Keys.{Key}
use Rattle.position_key.proofs.key.Key.of.Goals as goal

pub invariant_of-result : goal.invariant_of-result
invariant_of-result c = subst (λ b. AreMen b c.of.result) (sym c.size.ensures.value) c.of.ensures.men

pub returns : goal.returns
returns c =
    ap (λ p. let k : Key = record { position = p; question = c.args.question } in k)
    (ap (λ b. position_read b c.of.result) c.size.ensures.value ∙ c.of.ensures.back)
