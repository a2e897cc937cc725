-- The games that are made from a number. The generator is the minimal standard one with the multiplier 48271; that a move
-- takes the state's remainder by the number of open columns is this project's own choice.
use Rattle.std.specs.Prelude.{◌≡◌, ◌≢◌, ◌<◌, ◌≤◌, ℕ, zero, suc, ◌*◌, ◌%◌, if◌then◌else◌, List, [], ◌∷◌, length, Option, Some, None, is_some, slice_index}
use Rattle.game_rules.specs.Board.{Board}
use Rattle.game_rules.specs.Position.{Position, empty_position, end_of, open_columns, after_move, played}

-- the state before the next move
abbrev pub next_state : ℕ → ℕ
next_state x = (48271 * x) % 2147483647

-- the column that a state chooses: with m columns open, the one at the place x modulo m, counted from 0 at the left
abbrev pub chosen_column : Position → ℕ → ℕ
chosen_column p x = slice_index (open_columns p) (x % length (open_columns p))

-- The position after one move more, and the state that chose it: the state changes before each move, and a game that has
-- ended takes no more.
abbrev pub next_move : Position → ℕ → Option (Position × ℕ)
next_move p x = if is_some (end_of p) then None else Some (after_move p (chosen_column p (next_state x)), next_state x)

-- the position after at most n moves more, and the state then
unfoldable pub game_from : ℕ → Position → ℕ → Position × ℕ
game_from zero p x = (p, x)
game_from (suc n) p x = if is_some (end_of p) then (p, x) else game_from n (after_move p (chosen_column p (next_state x))) (next_state x)

-- so many games of at most so many moves each, one after the other: each goes on from the state that the last one left
unfoldable pub games_from : ℕ → Board → ℕ → ℕ → List Position
games_from zero board moves x = []
games_from (suc n) board moves x = (game_from moves (empty_position board) x).0 ∷ games_from n board moves (game_from moves (empty_position board) x).1

-- Legal moves lead from a position to another, at most so many; and fewer only where the game has ended there.
pub record Leads (moves : ℕ) (start p : Position) : Type 0 where
  pub columns : List ℕ
  pub along : played start columns ≡ Some p
  pub few : length columns ≤ moves
  pub ended : length columns < moves → end_of p ≢ None
