use Rattle.std.proofs.Common.{ap, ◌∙◌, ◌==◌}
use Rattle.board_bits.proofs.MenRead.{same_positions}
use Rattle.board_bits.proofs.men_number.MenNumber.same.Goals as goal

pub returns-clause-positions : goal.returns-clause-positions
returns-clause-positions c = λ b own others.
    ap (λ n. n == c.number-2.result) c.number.ensures ∙ ap (λ n. c.args.self.now == n) c.number-2.ensures
    ∙ same_positions b c.args.self.now c.args.other.now own others
