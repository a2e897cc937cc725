use Rattle.std.proofs.Common.{ap, ◌∙◌}
use Rattle.board_squares.specs.Runs.{has_run}
use Rattle.board_squares.proofs.Masks.{word_from}
use Rattle.board_squares.proofs.Runs.{set_runs}
use Rattle.board_squares.proofs.mask.Mask.run_of.Goals as goal

pub returns : goal.returns
returns c =
    c.has_run.ensures
    ∙ set_runs c.self.inside.word c.args.len (word_from c.self.inside.word c.self.invariant) c.requires
    ∙ ap (λ us. has_run us c.args.len) c.self.view_is
