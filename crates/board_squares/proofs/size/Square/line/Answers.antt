use Rattle.std.proofs.Common.{◌<◌, [], ◌∷◌, ◌++◌, map, sym, ap, ◌∙◌, arith}
use Rattle.std.proofs.lemmas.List.FromFn.{map-range_with_len_more}
use Rattle.game_rules.specs.Board.{below, on_board, step_of, line_length}
use Rattle.game_rules.specs.Squares.{widest_with}
use Rattle.game_rules.proofs.Ends.{each_step}
use Rattle.board_squares.proofs.size.Square.line.Goals as goal

pub step-requires-clause-on_the_board : goal.step-requires-clause-on_the_board
step-requires-clause-on_the_board c =
    let within : c.loop-i.i < line_length c.args.len = omega (arith, c.loop-i-test.true, c.squares_in-i-end.ensures.value) in
    each_step (on_board (widest_with c.args.len)) c.args.len c.args.way c.args.self.now c.requires c.loop-i.i within

pub loop-i-preserved : goal.loop-i-preserved
loop-i-preserved c =
    let i = c.loop-i.i in let step = step_of c.args.way c.args.self.now in
    record {
      so_far = c.push.ensures.items
          ∙ ap (λ us. us ++ c.step.result ∷ []) c.loop-i.invariant.so_far
          ∙ ap (λ u. map step (below i) ++ u ∷ []) c.step.ensures
          ∙ sym (map-range_with_len_more step 0 i i (omega arith));
      count = omega (arith, c.push.ensures.len, c.loop-i.invariant.count);
    }
