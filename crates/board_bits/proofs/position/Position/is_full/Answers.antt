use Rattle.std.proofs.Common.{◌*◌, ◌==◌, length, ap, ◌∙◌}
use Rattle.std.specs.Int.RustNames.{count_ones}
use Rattle.game_rules.specs.Board.{Board}
use Rattle.board_bits.proofs.Counts.{full_ones}
use Rattle.board_bits.proofs.Positions.{all_men}
use Rattle.board_bits.proofs.position.Position.is_full.Goals as goal

pub returns : goal.returns
returns c =
    let men = all_men c.args.self.now c.all_men.ensures.board c.all_men.ensures.stacked in
    ap (λ n. count_ones n == c.from.result * c.from-2.result) c.all_men.ensures.value
    ∙ ap (λ n. count_ones men == n * c.from-2.result) (c.from.ensures ∙ c.cols.ensures.value ∙ ap (λ (b : Board). b.cols) c.size.ensures.value)
    ∙ ap (λ n. count_ones men == length c.args.self.now.columns * n)
    (c.from-2.ensures ∙ c.rows.ensures.value ∙ ap (λ (b : Board). b.rows) c.size-2.ensures.value)
    ∙ full_ones c.args.self.now c.all_men.ensures.board c.all_men.ensures.stacked
