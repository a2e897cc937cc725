-- The grammar of game texts, as the one spelling of a game: its board, its list of moves, and whether a line feed ends
-- it.
use Rattle.std.specs.Prelude.{◌≡◌, ℕ, ◌+◌, Bool, true, if◌then◌else◌, List, [], ◌∷◌, ◌++◌, map, Some, codes}
use Rattle.std.specs.Fmt.{decimal}
use Rattle.game_rules.specs.Board.{Board, is_board}
use Rattle.game_rules.specs.Position.{Position, empty_position, played}
use Rattle.game_rules.specs.declared.Length.{Length}
use Rattle.game_rules.specs.declared.Length.TheVariants.{Four, Five}

-- a column's letter: `a` is the first
abbrev pub letter_of : ℕ → ℕ
letter_of column = 97 + column

-- the moves of a list, or `-` where there is none
abbrev pub move_list : List ℕ → List ℕ
move_list [] = codes "-"
move_list (column ∷ columns) = letter_of column ∷ map letter_of columns

-- lines of four aren't told
abbrev pub length_text : Length → List ℕ
length_text Four = []
length_text Five = codes " 5"

-- the two lines, but for the last line feed
abbrev pub board_line : Board → List ℕ
board_line board = codes "board " ++ (decimal board.cols ++ (codes " " ++ (decimal board.rows ++ length_text board.len)))

abbrev pub moves_line : List ℕ → List ℕ
moves_line columns = codes "moves " ++ move_list columns

abbrev pub last_feed : Bool → List ℕ
last_feed ended = if ended then 10 ∷ [] else []

abbrev pub game_text : Board → List ℕ → Bool → List ℕ
game_text board columns ended = board_line board ++ (10 ∷ (moves_line columns ++ last_feed ended))

-- The bytes spell a game whose position is p: a board, and moves each of which is legal at its turn.
pub record IsGameText (bytes : List ℕ) (p : Position) : Type 0 where
  pub board : Board
  pub columns : List ℕ
  pub ended : Bool
  pub has_board : is_board board ≡ true
  pub has_moves : played (empty_position board) columns ≡ Some p
  pub spelled : bytes ≡ game_text board columns ended
