use Rattle.std.proofs.Common.{sym, arith}
use Rattle.game_rules.proofs.Ends.{legal_parts}
use Rattle.game_rules.proofs.Games.{move_is_played, moves_few}
use Rattle.board_bits.proofs.MovesMade.{move_made}
use Rattle.board_bits.proofs.game.Game.play.Goals as goal

pub push-requires : goal.push-requires
push-requires c =
    let inside = c.self.inside in
    let made = move_made inside.position c.in_ok-self-inside.field-0 c.args.column (sym c.in_ok-self-inside.ensures) in
    let room = (legal_parts inside.position c.args.column made.0).1 in
    omega (arith, moves_few (record { position = inside.position; moves = inside.moves.items }) c.args.column c.self.invariant c.has_a_board.ensures.board room)

pub invariant_of-self : goal.invariant_of-self
invariant_of-self c =
    let inside = c.self.inside in
    let made = move_made inside.position c.in_ok-self-inside.field-0 c.args.column (sym c.in_ok-self-inside.ensures) in
    rw (made.1, c.push.ensures.items) (move_is_played (record { position = inside.position; moves = inside.moves.items }) c.args.column c.self.invariant made.0)
