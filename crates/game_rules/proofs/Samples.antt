-- What is asked of positions of examples: after some moves on a board with lines of four.
use Rattle.std.proofs.Common.{ℕ, List, Option}
use Rattle.std.specs.Option.{option_map}
use Rattle.game_rules.specs.Board.{Board}
use Rattle.game_rules.specs.Position.{Position, empty_position, played}
use Rattle.game_rules.specs.declared.Length.TheVariants.{Four}

abbrev pub board_of_four : ℕ → ℕ → Board
board_of_four cols rows = record { cols = cols; rows = rows; len = Four }

-- what holds after some moves
abbrev pub after_moves : {X : Type 0} → (Position → X) → ℕ → ℕ → List ℕ → Option X
after_moves f cols rows moves = option_map f (played (empty_position (board_of_four cols rows)) moves)
