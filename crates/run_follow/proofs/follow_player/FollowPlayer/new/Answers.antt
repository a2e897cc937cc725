use Rattle.std.proofs.Common.{sym, ap, ◌∙◌, arith}
use Rattle.game_rules.specs.Board.{is_board}
use Rattle.game_rules.specs.Position.{Position, board_of}
use Rattle.game_rules.proofs.BoardLine.{empty_count_within}
use Rattle.run_follow.proofs.Turn.{left_by}
use Rattle.run_follow.proofs.follow_player.FollowPlayer.new.Goals as goal

pub returns-clause-few : goal.returns-clause-few
returns-clause-few c =
    let few = empty_count_within c.args.follow.now (ap (λ (now : Position). is_board (board_of now)) (sym c.now.ensures) ∙ c.has_a_board.ensures.board) in
    omega (arith, left_by c.args.follow, few)
