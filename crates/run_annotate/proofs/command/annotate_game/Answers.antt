use Rattle.std.proofs.Common.{length, sym, ap, ◌∙◌}
use Rattle.std.proofs.KnownBytes.{Keeps-refl}
use Rattle.game_rules.specs.Position.{board_of}
use Rattle.run_annotate.specs.Dear.{IsSearched}
use Rattle.run_annotate.proofs.Dear.{last_each}
use Rattle.run_annotate.proofs.command.annotate_game.Goals as goal

pub write_marks-requires : goal.write_marks-requires
write_marks-requires g c =
    last_each c.args.game.now c.position.ensures.played c.size.result c.moves.result.now
    (c.size.ensures.value ∙ ap board_of c.position.ensures.position) c.moves.ensures.moves
    (IsSearched c.new-searcher.result.0 c.new-searcher.result.1) c.args.how.last c.in-Ok.marks.items c.in-Ok.ensures.marks
    ∙ ap length (sym c.as_slice.ensures.value)

pub returns-in-Err-clause-annotates : goal.returns-in-Err-clause-annotates
returns-in-Err-clause-annotates g c = λ text input left last_read is_text ended.
    ((c.args.game.now, is_text), ended, Keeps-refl (g.O.Sink.written c.args.out.now))
