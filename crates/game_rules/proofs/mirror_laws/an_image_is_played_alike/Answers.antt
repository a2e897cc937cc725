use Rattle.game_rules.proofs.Images.{turn_mirrored, has_line_mirrored, end_mirrored, legal_mirrored, move_mirrored, played_mirrored}
use Rattle.game_rules.proofs.mirror_laws.an_image_is_played_alike.Goals as goal

pub returns-clause-turn : goal.returns-clause-turn
returns-clause-turn c = turn_mirrored

pub returns-clause-lines : goal.returns-clause-lines
returns-clause-lines c = has_line_mirrored

pub returns-clause-end : goal.returns-clause-end
returns-clause-end c = end_mirrored

pub returns-clause-legal : goal.returns-clause-legal
returns-clause-legal c = legal_mirrored

pub returns-clause-moves : goal.returns-clause-moves
returns-clause-moves c = move_mirrored

pub returns-clause-games : goal.returns-clause-games
returns-clause-games c = played_mirrored
