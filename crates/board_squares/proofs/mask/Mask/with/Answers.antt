use Rattle.board_squares.proofs.Words.{word_back}
use Rattle.board_squares.proofs.Masks.{word_from, more, more_word, more_set}
use Rattle.board_squares.proofs.mask.Mask.with.Goals as goal

pub invariant_of-result : goal.invariant_of-result
invariant_of-result c = rw c.place_of.ensures.value
    (word_back (more c.self.inside.word c.args.s) (more_word c.self.inside.word c.args.s c.place_of.ensures.on (word_from c.self.inside.word c.self.invariant)))

pub returns : goal.returns
returns c = rw (c.place_of.ensures.value, ← c.self.view_is) (more_set c.self.inside.word c.args.s c.place_of.ensures.on)
