use Rattle.std.proofs.Common.{ap, ◌∙◌}
use Rattle.game_rules.specs.Board.{Board, line_length}
use Rattle.board_bits.specs.MenWords.{side_word}
use Rattle.board_squares.specs.Runs.{word_runs}
use Rattle.board_bits.proofs.Positions.{side_line}
use Rattle.board_bits.proofs.position.Position.has_line.Goals as goal

pub returns : goal.returns
returns c =
    c.has_run.ensures
    ∙ ap (λ n. word_runs n c.line.result) c.word.ensures.value
    ∙ ap (word_runs (side_word c.args.self.now c.args.side)) (c.line.ensures.value ∙ ap (λ (b : Board). line_length b.len) c.size.ensures.value)
    ∙ side_line c.args.self.now c.word.ensures.board c.word.ensures.stacked c.args.side
