use Rattle.std.proofs.Common.{◌≡◌, ◌+◌, ◌*◌, sym, ap, ◌∙◌, subst, arith}
use Rattle.game_rules.specs.Position.{board_of, has_man}
use Rattle.game_rules.specs.declared.Side.TheVariants.{White, Black}
use Rattle.board_bits.specs.MenWords.{side_word}
use Rattle.board_bits.specs.MenNumber.{men_number, position_read, AreMen}
use Rattle.board_bits.proofs.MenRead.{position_back, are_men}
use Rattle.board_squares.proofs.Words.{word_is_word}
use Rattle.board_bits.proofs.men_number.MenNumber.of.Goals as goal
use Rattle.board_bits.proofs.men_number.MenNumber.of.Goals.{After-of}

pub overflow_mul-word : goal.overflow_mul-word
overflow_mul-word c = let low = (word_is_word (has_man c.args.position.now Black)).low in omega (arith, low, c.word-2.ensures.value)

pub overflow_add-word : goal.overflow_add-word
overflow_add-word c =
    let white = (word_is_word (has_man c.args.position.now White)).low in let black = (word_is_word (has_man c.args.position.now Black)).low in
    omega (arith, white, black, c.word.ensures.value, c.word-2.ensures.value)

number_is : (c : After-of) → c.of.result ≡ men_number c.args.position.now
number_is c = c.of.ensures ∙ ap (λ n. n + 2 * c.word-2.result) c.word.ensures.value
    ∙ ap (λ n. side_word c.args.position.now White + 2 * n) c.word-2.ensures.value

pub returns-clause-men : goal.returns-clause-men
returns-clause-men c = subst (AreMen (board_of c.args.position.now)) (sym (number_is c))
    (are_men c.args.position.now c.word.ensures.board c.word.ensures.stacked)

pub returns-clause-back : goal.returns-clause-back
returns-clause-back c = ap (position_read (board_of c.args.position.now)) (number_is c)
    ∙ position_back c.args.position.now c.word.ensures.board c.word.ensures.stacked
