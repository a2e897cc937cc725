use Rattle.std.proofs.Common.{◌≡◌, ◌∷◌, [], ◌++◌, filter, length, sym, ap, ◌∙◌, arith}
use Rattle.game_rules.specs.Board.{below}
use Rattle.game_rules.specs.Position.{has_room}
use Rattle.drill_games.proofs.Columns.{one_open, one_full}
use Rattle.drill_games.proofs.games.open_columns.Goals as goal
use Rattle.drill_games.proofs.games.open_columns.Goals.{then-has_room, else-has_room}

pub loop-index-preserved : goal.loop-index-preserved
loop-index-preserved c =
    let p = c.args.position.now in
    let i = c.loop-index.index in
    let told : c.has_room.result ≡ has_room p i = c.has_room.ensures ∙ ap (has_room p) c.nth_column-column.ensures in
    elim c.if-has_room.branch [
      | then-has_room w ↦ record {
        so_far = ap (λ v. v.items) w.columns-is ∙ w.push.ensures.items ∙ ap (λ cs. cs ++ c.nth_column-column.result ∷ []) c.loop-index.invariant.so_far
            ∙ ap (λ n. filter (has_room p) (below i) ++ n ∷ []) c.nth_column-column.ensures ∙ sym (one_open p i (sym told ∙ w.if-has_room.true));
        count = omega (arith, ap (λ v. length v.items) w.columns-is, w.push.ensures.len, c.loop-index.invariant.count);
      }
      | else-has_room w ↦ record {
        so_far = ap (λ v. v.items) w.columns-is ∙ c.loop-index.invariant.so_far ∙ sym (one_full p i (sym told ∙ w.if-has_room.false));
        count = omega (arith, ap (λ v. length v.items) w.columns-is, c.loop-index.invariant.count);
      }
    ]
