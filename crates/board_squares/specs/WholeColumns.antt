-- Whole columns of squares.
use Rattle.std.specs.Prelude.{Bool, ◌&&◌, ◌==◌, List}
use Rattle.std.specs.List.{list_any}
use Rattle.game_rules.specs.Board.{Square, on_board}
use Rattle.game_rules.specs.Squares.{widest}

-- a square of the widest board in whose column some square of a list stands
abbrev pub in_columns_of : List Square → Square → Bool
in_columns_of us u = on_board widest u && list_any (λ v. v.0 == u.0) us
