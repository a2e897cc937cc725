use Rattle.std.proofs.Common.{◌≡◌, sym, subst, ap, ◌∙◌, bit_and}
use Rattle.std.specs.Int.{bit_not, w128}
use Rattle.game_rules.specs.Position.{board_of}
use Rattle.game_rules.specs.Squares.{IsSetOf, is_empty}
use Rattle.board_squares.specs.Words.{squares_of, board_word}
use Rattle.board_squares.proofs.Words.{word_back}
use Rattle.board_bits.proofs.Positions.{empty_word, empty_is_word, empty_set}
use Rattle.board_bits.proofs.position.Position.empties.Goals as goal
use Rattle.board_bits.proofs.position.Position.empties.Goals.{After-all_men}

empty_is : (c : After-all_men)
    → bit_and c.board_word.result (bit_not w128 c.all_men.result) ≡ empty_word c.args.self.now c.all_men.ensures.board c.all_men.ensures.stacked
empty_is c =
    ap (λ n. bit_and n (bit_not w128 c.all_men.result)) (c.board_word.ensures ∙ ap board_word c.size.ensures.value)
    ∙ ap (λ n. bit_and (board_word (board_of c.args.self.now)) (bit_not w128 n)) c.all_men.ensures.value

pub of_word-requires : goal.of_word-requires
of_word-requires c = rw (empty_is c) (word_back _ (empty_is_word c.args.self.now c.all_men.ensures.board c.all_men.ensures.stacked))

pub returns : goal.returns
returns c =
    subst (IsSetOf (is_empty c.args.self.now)) (sym (c.of_word.ensures ∙ ap squares_of (empty_is c.before)))
    (empty_set c.args.self.now c.all_men.ensures.board c.all_men.ensures.stacked)
