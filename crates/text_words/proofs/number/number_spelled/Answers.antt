use Rattle.std.proofs.Common.{◌∙◌, decimal, sym, ap, refl, arith}
use Rattle.std.specs.Bool.{IsTrue}
use Rattle.game_rules.proofs.Numbers.{number_spelled}
use Rattle.text_words.proofs.Digits.{digits_spell, spells_none}
use Rattle.text_words.proofs.number.number_spelled.Goals as goal

pub returns-then-not-has_shape : goal.returns-then-not-has_shape
returns-then-not-has_shape c =
    sym (spells_none c.args.low c.args.high c.args.digits.now (omega arith) (λ shape _.
    let has : IsTrue c.has_shape.result = c.has_shape.ensures.1 (shape.some, shape.leads) in cc))

pub returns-then-number-from : goal.returns-then-number-from
returns-then-number-from c =
    let shape = c.if-not-has_shape.ensures.0 refl in
    let spelled = digits_spell c.args.digits.now (record { some = shape.0; few = c.requires.few; leads = shape.1 }) c.requires.digits in
    sym (number_spelled c.args.low c.args.high c.args.number c.args.digits.now (omega arith) (omega arith) (omega (arith, spelled.0, c.requires.number))
    (spelled.1 ∙ ap decimal (sym c.requires.number)))
