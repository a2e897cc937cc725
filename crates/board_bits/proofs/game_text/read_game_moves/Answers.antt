use Rattle.std.proofs.Common.{◌<◌, ◌^◌, rules, arith}
use Rattle.game_rules.proofs.Games.{text_of_game}
use Rattle.board_bits.proofs.Stops.{game_read, fault_read, place_near}
use Rattle.board_bits.proofs.game_text.read_game_moves.Goals as goal

pub overflow_cast-result : goal.overflow_cast-result
overflow_cast-result c =
    let near : c.saturating_sub.result < 2 ^ 32 = omega (arith, place_near c.args.bytes.now c.in-Err.stop c.in-Err.ensures.position, c.saturating_sub.ensures)
    in
    search (rules, near)

pub returns-in-Ok-clause-position : goal.returns-in-Ok-clause-position
returns-in-Ok-clause-position c = game_read c.args.bytes.now c.in-Ok.game.position c.in-Ok.ensures.position

pub returns-in-Ok-clause-text : goal.returns-in-Ok-clause-text
returns-in-Ok-clause-text c = text_of_game c.args.bytes.now c.in-Ok.game (game_read c.args.bytes.now c.in-Ok.game.position c.in-Ok.ensures.position)
    c.in-Ok.ensures.moves

pub returns-in-Err-clause-position : goal.returns-in-Err-clause-position
returns-in-Err-clause-position c = rw c.saturating_sub.ensures (fault_read c.args.bytes.now c.in-Err.stop c.in-Err.ensures.position)
