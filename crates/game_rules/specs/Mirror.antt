-- The game seen from the other side of the board: the columns in the other order, and every man in its row. The rules of
-- the game know no left and no right.
use Rattle.std.specs.Prelude.{ℕ, ◌+◌, ◌-◌, reverse}
use Rattle.game_rules.specs.Board.{Square}
use Rattle.game_rules.specs.Position.{Position}

-- where a column lies among so many, seen from the other side
abbrev pub mirror_column : ℕ → ℕ → ℕ
mirror_column cols column = cols - (column + 1)

abbrev pub mirror_square : ℕ → Square → Square
mirror_square cols (column, row) = (mirror_column cols column, row)

-- the mirror image of a position
abbrev pub mirror : Position → Position
mirror p = record p { columns = reverse p.columns }
