use Rattle.game_rules.proofs.ImageValues.{value_mirrored}
use Rattle.game_rules.proofs.mirror_laws.an_image_has_the_same_value.Goals as goal

pub returns : goal.returns
returns c = value_mirrored
