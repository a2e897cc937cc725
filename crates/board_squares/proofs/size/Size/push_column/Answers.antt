use Rattle.std.proofs.Common.{◌∷◌, [], ◌++◌, ◌+◌, append_assoc, sym, ap, ◌∙◌, arith}
use Rattle.std.proofs.lemmas.List.FromFn.{map-range_with_len_more}
use Rattle.game_rules.specs.Squares.{squares_in_column}
use Rattle.board_squares.proofs.size.Size.push_column.Goals as goal

pub loop-i-preserved : goal.loop-i-preserved
loop-i-preserved c =
    let i = c.loop-i.i in
    record {
      so_far = c.push.ensures.items
          ∙ ap (λ us. us ++ (c.args.column, i + 1) ∷ []) c.loop-i.invariant.so_far
          ∙ append_assoc c.args.squares.now.items (squares_in_column i c.args.column) ((c.args.column, i + 1) ∷ [])
          ∙ ap (λ us. c.args.squares.now.items ++ us) (sym (map-range_with_len_more (λ i. (c.args.column, i + 1)) 0 i i (omega arith)));
      count = omega (arith, c.push.ensures.len, c.loop-i.invariant.count);
    }
