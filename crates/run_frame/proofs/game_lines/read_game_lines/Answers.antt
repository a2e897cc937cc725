use Rattle.std.proofs.Common.{Ok, sym, ap, ◌∙◌}
use Rattle.game_rules.proofs.Games.{game_is_read}
use Rattle.proof_text.specs.Texts.{pieces, game_of}
use Rattle.io_ports.proofs.Reading.{Reads_more}
use Rattle.run_frame.proofs.game_lines.read_game_lines.Goals as goal

pub returns-in-Ok-clause-answer : goal.returns-in-Ok-clause-answer
returns-in-Ok-clause-answer g c = Reads_more _ _ _ _ c.in-Ok.ensures.answer (λ bytes rest p. (
  p.0,
  (game_is_read (game_of (pieces bytes)) c.in-Ok.game p.1.0 ∙ ap Ok (sym c.position.ensures.position), p.1.1),
))
