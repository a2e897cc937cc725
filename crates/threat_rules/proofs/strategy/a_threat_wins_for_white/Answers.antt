use Rattle.std.proofs.Common.{◌≡◌, true, subst}
use Rattle.game_rules.specs.Board.{is_board}
use Rattle.game_rules.specs.Position.{board_of}
use Rattle.odd_rules.proofs.Theorems.{duel_turns, duel_held, threat_value}
use Rattle.threat_rules.proofs.strategy.a_threat_wins_for_white.Goals as goal
use Rattle.threat_rules.proofs.strategy.a_threat_wins_for_white.Goals.{After-has_a_board}

board_at : (c : After-has_a_board) → is_board (board_of c.args.threat.now.at) ≡ true
board_at c = subst (λ p. is_board (board_of p) ≡ true) c.at.ensures.value c.has_a_board.ensures.board

pub returns-clause-turns : goal.returns-clause-turns
returns-clause-turns c t columns i column lacks played at =
    let threat = c.args.threat.now in
    duel_turns threat.at threat.group threat.pairs t columns i column (board_at c) c.at.ensures.threat lacks played at

pub returns-clause-held : goal.returns-clause-held
returns-clause-held c columns i q at =
    let threat = c.args.threat.now in
    duel_held threat.at threat.group threat.pairs columns i q (board_at c) c.at.ensures.threat at

pub returns-clause-value : goal.returns-clause-value
returns-clause-value c =
    let threat = c.args.threat.now in
    threat_value threat.at threat.group threat.pairs (board_at c) c.at.ensures.threat
