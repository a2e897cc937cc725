use Rattle.std.proofs.Common.{◌≡◌, map, [], ◌∷◌, ◌++◌, ap, sym, ◌∙◌, arith}
use Rattle.std.proofs.lemmas.Bool.{and_parts}
use Rattle.std.proofs.lemmas.List.FromFn.{map-range_with_len_more}
use Rattle.game_rules.specs.Board.{below}
use Rattle.board_bits.specs.Order.{column_at}
use Rattle.board_bits.proofs.OrderTable.{order_by_formula}
use Rattle.board_bits.proofs.order.centre_out.Goals as goal

pub returns : goal.returns
returns c =
    let last : c.loop-place.place ≡ c.args.size.cols = omega arith in
    c.loop-place.invariant.so_far ∙ rw last (order_by_formula c.args.size.cols (and_parts _ _ c.cols-place-end.ensures.board).0)

pub loop-place-preserved : goal.loop-place-preserved
loop-place-preserved c = record {
  so_far = c.push.ensures.items
      ∙ ap (λ xs. xs ++ c.nth_column.result ∷ []) c.loop-place.invariant.so_far
      ∙ ap (λ n. map (column_at c.args.size.cols) (below c.loop-place.place) ++ n ∷ []) (c.nth_column.ensures ∙ c.column_at.ensures.value
      ∙ ap (λ n. column_at n c.loop-place.place) c.cols.ensures.value)
      ∙ sym (map-range_with_len_more (column_at c.args.size.cols) 0 c.loop-place.place c.loop-place.place (omega arith));
  count = omega (arith, c.push.ensures.len, c.loop-place.invariant.count);
}
