use Rattle.std.proofs.Common.{ap, ◌∙◌}
use Rattle.game_rules.specs.Position.{board_of, same_position}
use Rattle.board_bits.specs.MenNumber.{position_read}
use Rattle.cert_checker.proofs.known.stands_at.Goals as goal

pub returns : goal.returns
returns c =
    let board = board_of c.args.position.now in
    c.same.ensures.positions board c.requires c.of.ensures.men
    ∙ ap (same_position (position_read board c.args.men.now)) c.of.ensures.back
