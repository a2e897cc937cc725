use Rattle.game_rules.specs.Board.{line_length}
use Rattle.board_squares.proofs.Words.{word_back}
use Rattle.board_squares.proofs.Masks.{word_from}
use Rattle.board_squares.proofs.Runs.{starts_word, starts_set, a_length}
use Rattle.board_squares.proofs.mask.Mask.line_starts.Goals as goal

pub starts-requires : goal.starts-requires
starts-requires c = rw c.squares_in.ensures.value (a_length c.args.len)

pub invariant_of-result : goal.invariant_of-result
invariant_of-result c = rw (c.starts.ensures, c.squares_in.ensures.value)
    (word_back _ (starts_word c.self.inside.word (word_from c.self.inside.word c.self.invariant) c.args.way (line_length c.args.len) (a_length c.args.len)))

pub returns : goal.returns
returns c = rw (c.starts.ensures, c.squares_in.ensures.value, ← c.self.view_is)
    (starts_set c.self.inside.word (word_from c.self.inside.word c.self.invariant) c.args.way (line_length c.args.len) (a_length c.args.len))
