-- The value of a position under perfect play: how the game ends where both sides play their best. There is no order
-- of moves, no cut and no bound in it.
use Rattle.std.specs.Prelude.{ℕ, zero, suc, Bool, true, false, if◌then◌else◌, List, map, Option, Some, None}
use Rattle.std.specs.List.{list_any}
use Rattle.game_rules.specs.Position.{Position, side_to_move, other, end_of, empty_count, moved}
use Rattle.game_rules.specs.declared.Side.{Side}
use Rattle.game_rules.specs.declared.Side.TheVariants as sides
use Rattle.game_rules.specs.declared.End.{End}
use Rattle.game_rules.specs.declared.End.TheVariants.{White, Black, Draw}

-- the end in which a side wins
abbrev pub win_of : Side → End
win_of sides.White = White
win_of sides.Black = Black

abbrev pub same_end : End → End → Bool
same_end White White = true
same_end White Black = false
same_end White Draw = false
same_end Black White = false
same_end Black Black = true
same_end Black Draw = false
same_end Draw White = false
same_end Draw Black = false
same_end Draw Draw = true

-- the best of some ends for a side: its own win before a draw, and a draw before the other side's win
abbrev pub best_of : Side → List End → End
best_of side found = if list_any (same_end (win_of side)) found then win_of side else (if list_any (same_end Draw) found then Draw else win_of (other side))

-- where the game has ended, the end; else the best of what comes after each move
abbrev pub ended_or : Option End → End → End
ended_or (Some end) best = end
ended_or None best = best

-- the value, where no more than n moves are left
unfoldable pub value_within : ℕ → Position → End
value_within zero p = ended_or (end_of p) Draw
value_within (suc n) p = ended_or (end_of p) (best_of (side_to_move p) (map (value_within n) (moved p)))

-- as many moves are left as squares are empty
unfoldable pub value : Position → End
value p = value_within (empty_count p) p

abbrev pub wins : Side → Position → Bool
wins side p = same_end (win_of side) (value p)
