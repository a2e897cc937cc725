use Rattle.std.proofs.Common.{sym, subst, ap, ◌∙◌}
use Rattle.game_rules.specs.Position.{has_man}
use Rattle.game_rules.specs.Squares.{IsSetOf}
use Rattle.board_squares.specs.Words.{squares_of}
use Rattle.board_squares.proofs.Words.{word_is_word, word_back}
use Rattle.board_bits.proofs.Positions.{side_set}
use Rattle.board_bits.proofs.position.Position.men.Goals as goal

pub of_word-requires : goal.of_word-requires
of_word-requires c = rw c.word.ensures.value (word_back _ (word_is_word (has_man c.args.self.now c.args.side)))

pub returns : goal.returns
returns c =
    subst (IsSetOf (has_man c.args.self.now c.args.side)) (sym (c.of_word.ensures ∙ ap squares_of c.word.ensures.value))
    (side_set c.args.self.now c.word.ensures.board c.word.ensures.stacked c.args.side)
