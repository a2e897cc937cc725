use Rattle.std.proofs.Common.{take, ◌∙◌, arith}
use Rattle.run_frame.proofs.Inputs.{heard_text, same_game, game_ended, IfSome_more}
use Rattle.run_frame.proofs.game_input.read_game_input.Goals as goal

pub returns-in-Err-clause-takes : goal.returns-in-Err-clause-takes
returns-in-Err-clause-takes g c =
    let old = g.S.Source.left c.args.source.now in
    let heard = take c.in-Ok.length c.read_all.new.buf in
    let text = heard_text old _ c.in-Ok.length c.read_all.new.buf (omega (arith, c.read_all.auto.buf)) c.in-Ok.ensures.within c.in-Ok.ensures.bytes in
    let fault = c.in-Err.ensures.position in
    (heard, text.0, fault, IfSome_more old _ _ (same_game old _ heard text.0.gave text.1) (λ xs same. same ∙ fault))

pub returns-in-Ok-read_game_moves-clause-takes : goal.returns-in-Ok-read_game_moves-clause-takes
returns-in-Ok-read_game_moves-clause-takes g c =
    let old = g.S.Source.left c.args.source.now in
    let heard = take c.in-Ok.length c.read_all.new.buf in
    let text = heard_text old _ c.in-Ok.length c.read_all.new.buf (omega (arith, c.read_all.auto.buf)) c.in-Ok.ensures.within c.in-Ok.ensures.bytes in
    let read = c.in-Ok-read_game_moves in
    (heard, text.0, read.ensures.text, game_ended old _ heard text.0.gave text.1 read.game.position read.ensures.position)
