use Rattle.std.proofs.Common.{◌/◌, ◌≤◌, arith}
use Rattle.game_rules.specs.Position.{empty_count}
use Rattle.game_rules.proofs.BoardLine.{empty_count_within}
use Rattle.run_threat.proofs.threat_player.ThreatPlayer.new.Goals as goal

pub returns-clause-few : goal.returns-clause-few
returns-clause-few c =
    let few = empty_count_within c.at.result.now c.has_a_board.ensures.board in
    let half : empty_count c.at.result.now / 2 ≤ 50 = omega (arith, few) in
    half
