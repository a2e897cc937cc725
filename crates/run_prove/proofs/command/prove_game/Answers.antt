use Rattle.std.proofs.Common.{subst}
use Rattle.std.proofs.KnownBytes.{Keeps-refl}
use Rattle.game_rules.proofs.Games.{game_is_read}
use Rattle.run_prove.specs.Proof.{Writes}
use Rattle.run_frame.specs.Streams.{Streams}
use Rattle.run_prove.proofs.Ends.{proves_game}
use Rattle.run_prove.proofs.command.prove_game.Goals as goal

pub returns-in_default-clause-proves : goal.returns-in_default-clause-proves
returns-in_default-clause-proves g c = λ text input left last_read is_text ended.
    ((c.args.game.now.position, game_is_read text c.args.game.now is_text), ended, Keeps-refl (g.O.Sink.written c.args.out.now))

pub returns-in_default-front_for-clause-proves : goal.returns-in_default-front_for-clause-proves
returns-in_default-front_for-clause-proves g c = λ text input left last_read is_text ended.
    ((c.args.game.now.position, game_is_read text c.args.game.now is_text), ended, Keeps-refl (g.O.Sink.written c.args.out.now))

pub returns-clause-proves : goal.returns-clause-proves
returns-clause-proves g c = λ text input left last_read is_text ended.
    let p = c.args.game.now.position in
    let old = g.O.Sink.written c.args.out.now in
    let new = g.O.Sink.written c.write_proof-proved.new.out in
    let s : Streams = record { input = input; left = left; last_read = last_read; old = old; new = new } in
    let written = subst (λ slots. Writes c.args.how.version c.args.how.nodes c.args.how.reach slots text p old new c.write_proof-proved.result)
    c.in-Ok-front_for.ensures.slots (c.write_proof-proved.ensures.written text is_text) in
    rw c.proved_of.ensures (proves_game c.args.how.version c.args.how.nodes c.args.how.reach c.args.how.slots s p text ended
    (game_is_read text c.args.game.now is_text) c.write_proof-proved.result written c.write_proof-proved.ensures.unknown)
