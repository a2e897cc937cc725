use Rattle.std.proofs.Common.{Err, ap}
use Rattle.run_frame.specs.declared.run_stop.MemoryStop.TheVariants.{Input}
use Rattle.run_frame.specs.declared.run_stop.RunStop.TheVariants.{Own}
use Rattle.run_frame.proofs.Inputs.{of_game, no_game}
use Rattle.run_frame.proofs.Owed.{read_status, unwritten_status}
use Rattle.run_annotate.proofs.Ends.{annotate_owes}
use Rattle.run_annotate.proofs.command.annotate.Goals as goal

pub returns-in-Ok : goal.returns-in-Ok
returns-in-Ok g c =
    annotate_owes c.args.how.nodes c.args.how.reach c.args.how.last _ _ _ c.annotate_game.result
    (of_game _ _ c.in-Ok.game c.in-Ok.ensures.takes (λ taken. c.annotate_game.ensures.annotates taken _ _ (g.S.Source.last_read c.read_game_input.new.source)))
    (λ is. absurd (c.annotate_game.ensures.read is)) c.annotate_game.ensures.write_fault

pub returns-in-Err : goal.returns-in-Err
returns-in-Err g c = annotate_owes c.args.how.nodes c.args.how.reach c.args.how.last _ _ _
    (Err (Own (Input c.in-Err.stop))) (no_game _ _ _ _ c.in-Err.stop c.in-Err.ensures.takes) (λ is. c.in-Err.ensures.cause (ap Err (read_status c.in-Err.stop is)))
    (λ is. absurd (unwritten_status c.in-Err.stop is))
