use Rattle.std.proofs.Common.{◌&&◌, sym, ap, ◌∙◌}
use Rattle.std.specs.List.{list_any}
use Rattle.game_rules.specs.Board.{Square}
use Rattle.game_rules.specs.Squares.{has_square}
use Rattle.plan_rules.specs.Squares.{is_odd, span}
use Rattle.plan_rules.proofs.Spans.{odd_met}
use Rattle.inverse_rules.proofs.lowinverse.Lowinverse.bars_across.Goals as goal

pub returns-then-meets : goal.returns-then-meets
returns-then-meets c =
    let x = c.args.self.now in let set = c.args.set in let rows = c.odd_rows.result in let odd = c.intersection-odd.result in
    let left = odd_met set rows odd c.x_column.result (span x.0 x.1) c.odd_rows.ensures c.intersection-odd.ensures c.x_column.ensures in
    let right = odd_met set rows odd c.y_column.result (span x.2 x.3) c.odd_rows.ensures c.intersection-odd.ensures c.y_column.ensures in
    c.meets-then-meets.ensures ∙ right
    ∙ ap (λ b. b && list_any (λ (u : Square). is_odd u.1 && has_square set u) (span x.2 x.3)) (sym c.if-meets.true ∙ c.meets.ensures ∙ left)

pub returns-else-meets : goal.returns-else-meets
returns-else-meets c =
    let x = c.args.self.now in let set = c.args.set in
    let left = odd_met set c.odd_rows.result c.intersection-odd.result c.x_column.result (span x.0 x.1) c.odd_rows.ensures c.intersection-odd.ensures
    c.x_column.ensures in
    c.if-meets.false ∙ ap (λ b. b && list_any (λ (u : Square). is_odd u.1 && has_square set u) (span x.2 x.3)) (sym c.if-meets.false ∙ c.meets.ensures ∙ left)
