-- The faults of the text of a game, as the table of their kinds says them. The text is cut at the place of its fault:
-- what stands before the place is right as far as it goes, and what stands behind it, from the place on, isn't. Which
-- byte is looked at, and which reader finds it, is no matter here.
use Rattle.std.specs.Prelude.{◌≡◌, ◌≢◌, ◌⊎◌, ℕ, ◌<◌, true, false, List, [], ◌∷◌, ◌++◌, map, length, take_while, Some, None, codes, ⊤}
use Rattle.std.specs.Fmt.{decimal}
use Rattle.game_rules.specs.Board.{Board, is_board, is_cols, is_rows}
use Rattle.game_rules.specs.Position.{Position, empty_position, end_of, has_room, played}
use Rattle.game_rules.specs.Text.{is_digit}
use Rattle.game_rules.specs.Grammar.{letter_of, board_line, game_text}
use Rattle.game_rules.specs.declared.End.{End}
use Rattle.game_rules.specs.declared.InputFault.{InputFault}
use Rattle.game_rules.specs.declared.InputKind.{InputKind}
use Rattle.game_rules.specs.declared.Length.TheVariants.{Four}

-- a fault of this kind, at this byte place
abbrev pub fault_at : InputKind → ℕ → InputFault
fault_at kind at = record { kind = kind; at = at }

-- the text has a place, and this holds of what stands before it and of what stands from it on
pub record IsAt (bytes : List ℕ) (at : ℕ) (Is : List ℕ → List ℕ → Type 0) : Type 0 where
  pub before : List ℕ
  pub behind : List ℕ
  pub whole : bytes ≡ before ++ behind
  pub place : at ≡ length before
  pub is : Is before behind

-- ---- BadHeader: a byte of a fixed part is another byte or is missing

-- the text ends at the place, or another byte than this one stands there
abbrev pub IsOther : ℕ → List ℕ → Type 0
IsOther x [] = ⊤
IsOther x (byte ∷ more) = byte ≢ x

-- the longest run of digits at the place
abbrev pub run_of : List ℕ → List ℕ
run_of behind = take_while is_digit behind

-- a byte of `board `
pub record BreaksBoard (before behind : List ℕ) : Type 0 where
  pub byte : ℕ
  pub later : List ℕ
  pub fixed : codes "board " ≡ before ++ byte ∷ later
  pub other : IsOther byte behind

-- the space behind the number of columns, where its digits end
pub record BreaksGap (before behind : List ℕ) : Type 0 where
  pub cols : ℕ
  pub has_cols : is_cols cols ≡ true
  pub is_before : before ≡ codes "board " ++ decimal cols
  pub run_ends : run_of behind ≡ []
  pub other : IsOther 32 behind

-- the line feed behind the rows or behind the length of lines, where the digits end, or a byte of `moves `; behind the
-- rows a space is no fault, since the length follows it
pub record BreaksMoves (before behind : List ℕ) : Type 0 where
  pub board : Board
  pub part : List ℕ
  pub byte : ℕ
  pub later : List ℕ
  pub has_board : is_board board ≡ true
  pub is_before : before ≡ board_line board ++ part
  pub fixed : 10 ∷ codes "moves " ≡ part ++ byte ∷ later
  pub run_ends : part ≡ [] → run_of behind ≡ []
  pub no_length : part ≡ [] → board.len ≡ Four → IsOther 32 behind
  pub other : IsOther byte behind

abbrev pub IsBadHeader : List ℕ → List ℕ → Type 0
IsBadHeader before behind = BreaksBoard before behind ⊎ BreaksGap before behind ⊎ BreaksMoves before behind

-- ---- BadSize: the run of digits spells no number of columns or of rows that a board has, or no length of lines, or is
-- empty

pub record HasNoCols (before behind : List ℕ) : Type 0 where
  pub is_before : before ≡ codes "board "
  pub none : (n : ℕ) → is_cols n ≡ true → run_of behind ≢ decimal n

pub record HasNoRows (before behind : List ℕ) : Type 0 where
  pub cols : ℕ
  pub has_cols : is_cols cols ≡ true
  pub is_before : before ≡ codes "board " ++ (decimal cols ++ codes " ")
  pub none : (n : ℕ) → is_rows n ≡ true → run_of behind ≢ decimal n

-- behind the rows and a space: `5` is the one length that is told
pub record HasNoLength (before behind : List ℕ) : Type 0 where
  pub board : Board
  pub has_board : is_board board ≡ true
  pub untold : board.len ≡ Four
  pub is_before : before ≡ board_line board ++ codes " "
  pub none : run_of behind ≢ codes "5"

abbrev pub IsBadSize : List ℕ → List ℕ → Type 0
IsBadSize before behind = HasNoCols before behind ⊎ HasNoRows before behind ⊎ HasNoLength before behind

-- ---- the list of moves, up to a place

-- the head of the text, with the letters of some moves
abbrev pub up_to : Board → List ℕ → List ℕ
up_to board columns = board_line board ++ (10 ∷ (codes "moves " ++ map letter_of columns))

-- that stands before the place, and the moves are legal one after the other; they lead from the empty board to p
pub record IsUpTo (before : List ℕ) (board : Board) (columns : List ℕ) (p : Position) : Type 0 where
  pub has_board : is_board board ≡ true
  pub has_moves : played (empty_position board) columns ≡ Some p
  pub is_before : before ≡ up_to board columns

-- a letter of the board's columns stands at the place, behind moves that lead to p
pub record IsMove (before behind : List ℕ) (p : Position) (column : ℕ) : Type 0 where
  pub board : Board
  pub columns : List ℕ
  pub more : List ℕ
  pub up_to : IsUpTo before board columns p
  pub is_behind : behind ≡ letter_of column ∷ more
  pub on_board : column < board.cols

-- ---- BadColumn: the first byte of the list is neither `-` nor a column letter of the board or is missing, or a later
-- byte of a list of letters is neither a column letter nor a line feed

abbrev pub IsNoLetter : Board → ℕ → Type 0
IsNoLetter board byte = (column : ℕ) → column < board.cols → byte ≢ letter_of column

-- where these moves stand before the place; `-` is byte 45, and a line feed byte 10
abbrev pub IsNoItem : Board → List ℕ → List ℕ → Type 0
IsNoItem board [] [] = ⊤
IsNoItem board [] (byte ∷ more) = (byte ≢ 45) × IsNoLetter board byte
IsNoItem board (column ∷ columns) [] = ⊥
IsNoItem board (column ∷ columns) (byte ∷ more) = (byte ≢ 10) × IsNoLetter board byte

pub record IsBadColumn (before behind : List ℕ) : Type 0 where
  pub board : Board
  pub columns : List ℕ
  pub p : Position
  pub up_to : IsUpTo before board columns p
  pub none : IsNoItem board columns behind

-- ---- GameOver: a letter stands after the game has ended

pub record IsGameOver (before behind : List ℕ) : Type 0 where
  pub p : Position
  pub column : ℕ
  pub letter : IsMove before behind p column
  pub ending : End
  pub ended : end_of p ≡ Some ending

-- ---- ColumnFull: a letter names a full column and the game goes on

pub record IsColumnFull (before behind : List ℕ) : Type 0 where
  pub p : Position
  pub column : ℕ
  pub letter : IsMove before behind p column
  pub goes_on : end_of p ≡ None
  pub full : has_room p column ≡ false

-- ---- Trailing: a byte follows the line feed after the list, or a byte other than a line feed follows `-`

pub record FollowsText (before behind : List ℕ) : Type 0 where
  pub board : Board
  pub columns : List ℕ
  pub p : Position
  pub byte : ℕ
  pub more : List ℕ
  pub has_board : is_board board ≡ true
  pub has_moves : played (empty_position board) columns ≡ Some p
  pub is_before : before ≡ game_text board columns true
  pub is_behind : behind ≡ byte ∷ more

pub record FollowsDash (before behind : List ℕ) : Type 0 where
  pub board : Board
  pub byte : ℕ
  pub more : List ℕ
  pub has_board : is_board board ≡ true
  pub is_before : before ≡ game_text board [] false
  pub is_behind : behind ≡ byte ∷ more
  pub no_feed : byte ≢ 10

abbrev pub IsTrailing : List ℕ → List ℕ → Type 0
IsTrailing before behind = FollowsText before behind ⊎ FollowsDash before behind
