use Rattle.game_rules.proofs.Images.{board_mirrored, man_mirrored, twice}
use Rattle.game_rules.proofs.mirror_laws.an_image_is_seen_from_the_other_side.Goals as goal

pub returns-clause-board : goal.returns-clause-board
returns-clause-board c = board_mirrored

pub returns-clause-men : goal.returns-clause-men
returns-clause-men c = man_mirrored

pub returns-clause-twice : goal.returns-clause-twice
returns-clause-twice c = twice
