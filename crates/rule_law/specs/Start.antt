-- White's first move in a zone, and Black's answer to it.
use Rattle.std.specs.Prelude.{◌≡◌, Bool, true, List, Option, Some}
use Rattle.game_rules.specs.Board.{Square}
use Rattle.game_rules.specs.Position.{Position, side_to_move, after_move}
use Rattle.game_rules.specs.Squares.{has_square, is_playable}
use Rattle.game_rules.specs.declared.Side.TheVariants.{White}
use Rattle.plan_rules.specs.Laws.{IsFounded}

-- the instance fits, White is to move to a square of its zone, and below the zone the columns are filled
pub record IsStart (zone : List Square) (fitted : Position → Bool) (p : Position) (last : Square) : Type 0 where
  pub fits_now : fitted p ≡ true
  pub white : side_to_move p ≡ White
  pub owned : has_square zone last ≡ true
  pub founded : IsFounded zone p

-- a playable square of the zone, after which the instance is calm
pub record IsAnswer (zone : List Square) (calm : Position → Bool) (p : Position) (last : Square) (result : Option Square) : Type 0 where
  pub to : Square
  pub is_result : result ≡ Some to
  pub in_zone : has_square zone to ≡ true
  pub playable : is_playable (after_move p last.0) to ≡ true
  pub calm_after : calm (after_move (after_move p last.0) to.0) ≡ true
