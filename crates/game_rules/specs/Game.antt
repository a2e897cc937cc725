-- A game: the moves that were played from the start of a board, and the position behind them.
use Rattle.std.specs.Prelude.{◌≡◌, ℕ, ◌-◌, Bool, true, ◌==◌, if◌then◌else◌, List, [], ◌∷◌, Some, Result, Ok, Err}
use Rattle.game_rules.specs.Board.{Board, is_board}
use Rattle.game_rules.specs.Position.{Position, board_of, empty_position, played}
use Rattle.game_rules.specs.Text.{board_at}
use Rattle.game_rules.specs.Grammar.{game_text}
use Rattle.game_rules.specs.declared.Stop.{Stop}

pub record Game : Type 0 where
  pub position : Position
  -- the column of each move, in order
  pub moves : List ℕ

abbrev pub board_played : Game → Board
board_played game = board_of game.position

abbrev pub new_game : Board → Game
new_game board = record { position = empty_position board; moves = [] }

-- each move was legal at its turn, and together they lead to the position
abbrev pub IsPlayed : Game → Type 0
IsPlayed game = played (empty_position (board_played game)) game.moves ≡ Some game.position

-- The bytes are the text of the game: its board, its moves, and a line feed behind them or none.
pub record IsTextOf (bytes : List ℕ) (game : Game) : Type 0 where
  pub ended : Bool
  pub has_board : is_board (board_played game) ≡ true
  pub has_moves : IsPlayed game
  pub spelled : bytes ≡ game_text (board_played game) game.moves ended

-- The columns that letters name, up to a line feed or the end, and those of a list of moves. What isn't a letter is read as
-- some number: the reader refuses it before.
abbrev pub letters_in : List ℕ → List ℕ
letters_in [] = []
letters_in (byte ∷ bytes) = if byte == 10 then [] else (byte - 97) ∷ letters_in bytes

abbrev pub moves_in : List ℕ → List ℕ
moves_in [] = []
moves_in (byte ∷ bytes) = if byte == 45 then [] else (byte - 97) ∷ letters_in bytes

-- the columns of the moves that a text spells
abbrev pub moves_behind : Result (Board × List ℕ) Stop → List ℕ
moves_behind (Ok line) = moves_in line.1
moves_behind (Err stop) = []

abbrev pub moves_of : List ℕ → List ℕ
moves_of bytes = moves_behind (board_at bytes)
