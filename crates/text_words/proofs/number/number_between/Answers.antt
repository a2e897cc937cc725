use Rattle.std.proofs.Common.{◌∙◌, decimal, sym, ap, refl, arith}
use Rattle.std.specs.Bool.{IsTrue}
use Rattle.game_rules.proofs.Numbers.{number_spelled}
use Rattle.text_words.proofs.Digits.{digits_spell, spells_none}
use Rattle.text_words.proofs.number.number_between.Goals as goal

pub returns-then-bytes-gt-MOST_DIGITS : goal.returns-then-bytes-gt-MOST_DIGITS
returns-then-bytes-gt-MOST_DIGITS c =
    sym (spells_none c.args.low c.args.high c.args.bytes.now (omega arith) (λ shape _. absurd (omega (arith, shape.few, c.if-bytes-gt-MOST_DIGITS.true))))

pub returns-in_err-number : goal.returns-in_err-number
returns-in_err-number c =
    c.from_residual.ensures ∙ sym (spells_none c.args.low c.args.high c.args.bytes.now (omega arith) (λ _ digits. c.in_err-number.ensures digits))
