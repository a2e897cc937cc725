-- What the plain search costs: the number of positions that it enters, where it visits the moves from the middle
-- outwards and stops at the first that decides.
use Rattle.std.specs.Prelude.{ℕ, zero, suc, ◌+◌, ◌-◌, ◌*◌, Bool, false, not, ◌||◌, ◌==◌, if◌then◌else◌, List, [], ◌∷◌, map, length, filter, is_some}
use Rattle.std.specs.List.{flat_map}
use Rattle.game_rules.specs.Board.{below}
use Rattle.game_rules.specs.Position.{Position, side_to_move, same_side, has_room, after_move, end_of, empty_count}
use Rattle.game_rules.specs.Value.{wins}
use Rattle.game_rules.specs.declared.Side.{Side}
use Rattle.game_rules.specs.declared.Side.TheVariants.{White, Black}

-- how far a column is from the middle, in half columns
abbrev pub distance : ℕ → ℕ → ℕ
distance cols column = (2 * column + 1 - cols) + (cols - (2 * column + 1))

-- the columns by their distance from the middle, and of two equally far ones the left one first
abbrev pub centre_out : ℕ → List ℕ
centre_out cols = flat_map (λ far. filter (λ column. distance cols column == far) (below cols)) (below cols)

-- the positions after each move, in that order
abbrev pub moved_out : Position → List Position
moved_out p = map (after_move p) (filter (has_room p) (centre_out (length p.columns)))

-- whether a position after a move settles the question at p, whether the side wins: the side needs one that it wins,
-- and the other side one that the side doesn't win
abbrev pub decides : Side → Position → Position → Bool
decides side p q = if same_side side (side_to_move p) then wins side q else not (wins side q)

-- the counts up to the first that decides, and with it
abbrev pub count_until : (Position → Bool) → (Position → ℕ) → List Position → ℕ
count_until decides count [] = 0
count_until decides count (q ∷ qs) = count q + (if decides q then 0 else count_until decides count qs)

-- How many positions the search for whether the side wins enters. The set `closed` has the positions at which it
-- answers that question without a move.
unfoldable pub count_within : (Side → Position → Bool) → ℕ → Side → Position → ℕ
count_within closed zero side p = 1
count_within closed (suc n) side p = if is_some (end_of p) || closed side p then 1 else 1 + count_until (decides side p) (count_within closed n side) (moved_out p)

unfoldable pub count : (Side → Position → Bool) → Side → Position → ℕ
count closed side p = count_within closed (empty_count p) side p

-- Black is asked about where White doesn't win
unfoldable pub cost : (Side → Position → Bool) → Position → ℕ
cost closed p = count closed White p + (if wins White p then 0 else count closed Black p)

-- the empty set: each position at which the game goes on is searched
abbrev pub none_closed : Side → Position → Bool
none_closed side p = false
