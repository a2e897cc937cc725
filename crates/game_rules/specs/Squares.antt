-- Sets of squares, each kept as the list of its squares in square order, and the tests of one square of a position.
use Rattle.std.specs.Prelude.{◌≡◌, ◌⊎◌, ℕ, ◌+◌, ◌<◌, Bool, ◌&&◌, ◌==◌, List, map, filter, is_none}
use Rattle.std.specs.List.{list_any, flat_map}
use Rattle.game_rules.specs.Board.{Board, Square, below, on_board}
use Rattle.game_rules.specs.Position.{Position, board_of, height, man_at}
use Rattle.game_rules.specs.declared.Length.{Length}
use Rattle.game_rules.specs.declared.Length.TheVariants.{Four}

-- the same column and the same row
abbrev pub same_square : Square → Square → Bool
same_square u v = (u.0 == v.0) && (u.1 == v.1)

-- the list has the square
abbrev pub has_square : List Square → Square → Bool
has_square us u = list_any (same_square u) us

-- the squares of one column, from the bottom up
abbrev pub squares_in_column : ℕ → ℕ → List Square
squares_in_column rows column = map (λ i. (column, i + 1)) (below rows)

-- the squares of a board in square order: by column, then by row
unfoldable pub squares_of_board : Board → List Square
squares_of_board board = flat_map (squares_in_column board.rows) (below board.cols)

-- one square stands before another in square order
abbrev pub Precedes : Square → Square → Type 0
Precedes u v = (u.0 < v.0) ⊎ ((u.0 ≡ v.0) × (u.1 < v.1))

-- no board has more columns or more rows
abbrev pub widest_with : Length → Board
widest_with len = record { cols = 10; rows = 10; len = len }

-- which squares a board has doesn't depend on the length of its lines
abbrev pub widest : Board
widest = widest_with Four

-- the squares that pass a test, in square order
unfoldable pub squares_where : (Square → Bool) → List Square
squares_where test = filter test (squares_of_board widest)

-- The list is the set of the squares that pass the test: it stands in square order, each square once, and has exactly
-- those.
pub record IsSetOf (test : Square → Bool) (us : List Square) : Type 0 where
  pub in_order : us ≡ squares_where test
  pub has : (u : Square) → has_square us u ≡ test u

-- a square of the board without a man
abbrev pub is_empty : Position → Square → Bool
is_empty p u = on_board (board_of p) u && is_none (man_at p u)

-- a square of the board directly on top of its column's men
abbrev pub is_playable : Position → Square → Bool
is_playable p u = on_board (board_of p) u && (u.1 == height p u.0 + 1)
