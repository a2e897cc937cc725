-- What is listed of a position for a search.
use Rattle.std.specs.Prelude.{◌≡◌, map}
use Rattle.game_rules.specs.Position.{Position}
use Rattle.game_rules.specs.Squares.{has_square, IsSetOf}
use Rattle.game_rules.specs.declared.Side.TheVariants.{White, Black}
use Rattle.plan_rules.specs.Listing.{playable_squares}
use Rattle.rule_compat.specs.Written.{written_list}
use Rattle.walk_rules.specs.Walk.{fitting_zones}
use Rattle.rule_chooser.specs.Links.{IsLinked}
use Rattle.rule_chooser.specs.OpenGroups.{open_group_at, groups_for}
use Rattle.rule_chooser.specs.declared.ground.Ground.{Ground}

pub record IsGround (p : Position) (ground : Ground) : Type 0 where
  pub zones : written_list ground.zones.list.items ≡ fitting_zones p
  pub linked : IsLinked ground.zones.list.items ground.zones.heads ground.zones.links
  pub white : ground.white.items ≡ map (open_group_at p) (groups_for White p)
  pub black : ground.black.items ≡ map (open_group_at p) (groups_for Black p)
  pub playable : IsSetOf (has_square (playable_squares p)) ground.playable
