-- Columns of squares, and what stands on them. These words are this project's own; a set of squares, what is empty and
-- what is playable are the game's.
use Rattle.std.specs.Prelude.{ℕ, zero, suc, ◌+◌, ◌-◌, ◌%◌, Bool, not, ◌||◌, ◌==◌, List, [], ◌∷◌, map, Option, Some, None}
use Rattle.std.specs.List.{list_all}
use Rattle.game_rules.specs.Board.{Square}
use Rattle.game_rules.specs.Position.{Position, man_at}
use Rattle.game_rules.specs.declared.Side.{Side}

-- the square directly above, and the one directly below
abbrev pub above : Square → Square
above u = (u.0, u.1 + 1)

abbrev pub under : Square → Square
under u = (u.0, u.1 - 1)

abbrev pub is_even : ℕ → Bool
is_even n = (n % 2) == 0

abbrev pub is_odd : ℕ → Bool
is_odd n = (n % 2) == 1

-- n squares of a column, from a square upwards
abbrev pub column_up : Square → ℕ → List Square
column_up u zero = []
column_up u (suc n) = u ∷ column_up (above u) n

-- the squares of a column from the first up to the last
abbrev pub span : Square → Square → List Square
span bottom top = column_up bottom (top.1 + 1 - bottom.1)

-- each of the squares that passes the first test passes the second
abbrev pub each_of : (Square → Bool) → (Square → Bool) → List Square → Bool
each_of chosen test us = list_all (λ u. not (chosen u) || test u) us

-- what stands on each of the squares, in order
abbrev pub word_at : Position → List Square → List (Option Side)
word_at p us = map (man_at p) us

-- the men on the squares, in order
abbrev pub put_first : Option Side → List Side → List Side
put_first None men = men
put_first (Some man) men = man ∷ men

abbrev pub men_on : Position → List Square → List Side
men_on p [] = []
men_on p (u ∷ us) = put_first (man_at p u) (men_on p us)
