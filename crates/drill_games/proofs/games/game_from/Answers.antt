use Rattle.std.proofs.Common.{suc, ◌-◌, sym, ◌∙◌, arith}
use Rattle.drill_games.proofs.Played.{none_left, game_ended, one_move}
use Rattle.drill_games.proofs.games.game_from.Goals as goal

pub loop-made-preserved : goal.loop-made-preserved
loop-made-preserved c = λ left whole.
    sym (one_move left c.loop-made.so_far.0 c.loop-made.so_far.1 c.in-Some.next (sym c.in-Some.ensures)) ∙ c.loop-made.invariant (suc left) (omega arith)

pub returns-in_default : goal.returns-in_default
returns-in_default c =
    let left = c.args.moves - c.loop-made.made in
    sym (game_ended left c.loop-made.so_far.0 c.loop-made.so_far.1 (sym c.in_default.ensures)) ∙ c.loop-made.invariant left (omega arith)

pub returns : goal.returns
returns c = sym (none_left c.loop-made.so_far.0 c.loop-made.so_far.1) ∙ c.loop-made.invariant 0 (omega arith)
