use Rattle.std.proofs.Common.{◌<◌, length, ap, ◌∙◌, arith}
use Rattle.game_rules.specs.Position.{board_of}
use Rattle.cert_checker.specs.Trail.{Trail}
use Rattle.cert_checker.proofs.Trails.{board_kept}
use Rattle.cert_checker.proofs.trail.Trail.last.Goals as goal

pub returns-clause-board : goal.returns-clause-board
returns-clause-board c =
    let a = c.self.inside in
    let within : a.moves < length a.positions = omega (arith, c.self.invariant.within, c.self.invariant.positions) in
    board_kept a.root c.index-self-self.result a.columns a.positions a.moves within (c.self.invariant.reached a.moves (omega arith))
    ∙ ap (λ (t : Trail). board_of t.root) c.self.view_is
