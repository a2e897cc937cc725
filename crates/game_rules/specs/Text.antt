-- The text of a game, this project's own: the line `board COLS ROWS`, with ` 5` behind it where lines of five win, and the
-- line `moves` with a letter for each move, or `-` for none. The last line feed may be missing. Reading goes from the left
-- and gives the position, or the first fault.
use Rattle.std.specs.Prelude.{ℕ, ◌-◌, Bool, ◌&&◌, ◌||◌, ◌==◌, nat_le, if◌then◌else◌, List, [], ◌∷◌, length, drop, take_while, Option, Some, None, is_some, Result, Ok, Err, codes}
use Rattle.game_rules.specs.Board.{Board}
use Rattle.game_rules.specs.Letters.{column_named}
use Rattle.game_rules.specs.Position.{Position, empty_position, has_room, after_move, end_of}
use Rattle.game_rules.specs.declared.InputKind.{InputKind}
use Rattle.game_rules.specs.declared.InputKind.TheVariants.{BadHeader, BadSize, BadColumn, ColumnFull, GameOver, Trailing}
use Rattle.game_rules.specs.declared.InputFault.{InputFault}
use Rattle.game_rules.specs.declared.Stop.{Stop}
use Rattle.game_rules.specs.declared.Length.{Length}
use Rattle.game_rules.specs.declared.Length.TheVariants.{Four, Five}

-- reading stops at a fault of this kind, with so many bytes left
abbrev pub stop : {X : Type 0} → InputKind → ℕ → Result X Stop
stop kind left = Err (record { kind = kind; left = left })

infixl 10 ◌>>=◌
abbrev pub ◌>>=◌ : {A B : Type 0} → Result A Stop → (A → Result B Stop) → Result B Stop
(Ok x) >>= f = f x
(Err e) >>= f = Err e

-- the bytes after a fixed text
abbrev pub after_text : List ℕ → List ℕ → Result (List ℕ) Stop
after_text [] bytes = Ok bytes
after_text (x ∷ xs) [] = stop BadHeader 0
after_text (x ∷ xs) (byte ∷ bytes) = if byte == x then after_text xs bytes else stop BadHeader (length (byte ∷ bytes))

abbrev pub is_digit : ℕ → Bool
is_digit byte = nat_le 48 byte && nat_le byte 57

-- the number of columns or of rows that a run of digits spells
abbrev pub cols_of : List ℕ → Option ℕ
cols_of [] = None
cols_of (a ∷ []) = if nat_le 52 a && nat_le a 57 then Some (a - 48) else None
cols_of (a ∷ b ∷ []) = if a == 49 && b == 48 then Some 10 else None
cols_of (a ∷ b ∷ c ∷ run) = None

abbrev pub rows_of : List ℕ → Option ℕ
rows_of [] = None
rows_of (a ∷ []) = if a == 52 || a == 54 || a == 56 then Some (a - 48) else None
rows_of (a ∷ b ∷ []) = if a == 49 && b == 48 then Some 10 else None
rows_of (a ∷ b ∷ c ∷ run) = None

-- how long a line has to be, where a run of digits says it; lines of four have no digit
abbrev pub line_of : List ℕ → Option Length
line_of [] = None
line_of (a ∷ []) = if a == 53 then Some Five else None
line_of (a ∷ b ∷ run) = None

-- a number or a length, and the bytes after it
abbrev pub read_as : {X : Type 0} → Option X → List ℕ → List ℕ → Result (X × List ℕ) Stop
read_as (Some n) rest bytes = Ok (n, rest)
read_as None rest bytes = stop BadSize (length bytes)

-- the longest run of digits at the start has to spell one
abbrev pub size_at : {X : Type 0} → (List ℕ → Option X) → List ℕ → Result (X × List ℕ) Stop
size_at spelled bytes = let run = take_while is_digit bytes in read_as (spelled run) (drop (length run) bytes) bytes

-- the length of lines behind the rows: that of the digits behind a space, and else four
abbrev pub length_at : List ℕ → Result (Length × List ℕ) Stop
length_at [] = Ok (Four, [])
length_at (byte ∷ bytes) = if byte == 32 then size_at line_of bytes else Ok (Four, byte ∷ bytes)

-- the position after one more letter, where as many bytes are left as said, the letter too
abbrev pub move_into : Position → ℕ → Option ℕ → Result Position Stop
move_into p left None = stop BadColumn left
move_into p left (Some column) = if is_some (end_of p) then stop GameOver left else (if has_room p column then Ok (after_move p column) else stop ColumnFull left)

abbrev pub letter_read : Position → ℕ → ℕ → Result Position Stop
letter_read p byte left = move_into p left (column_named (length p.columns) byte)

-- nothing may follow
abbrev pub at_end : Position → List ℕ → Result Position Stop
at_end p [] = Ok p
at_end p (byte ∷ bytes) = stop Trailing (length (byte ∷ bytes))

-- further letters, up to the line feed or the end
abbrev pub letters_from : Position → List ℕ → Result Position Stop
letters_from p [] = Ok p
letters_from p (byte ∷ bytes) = if byte == 10 then at_end p bytes else (letter_read p byte (length (byte ∷ bytes)) >>= λ q. letters_from q bytes)

-- behind `-` there may be one line feed
abbrev pub after_dash : Position → List ℕ → Result Position Stop
after_dash p [] = Ok p
after_dash p (byte ∷ bytes) = if byte == 10 then at_end p bytes else stop Trailing (length (byte ∷ bytes))

-- the list of moves: `-`, or letters
abbrev pub moves_at : Position → List ℕ → Result Position Stop
moves_at p [] = stop BadColumn 0
moves_at p (byte ∷ bytes) = if byte == 45 then after_dash p bytes else (letter_read p byte (length (byte ∷ bytes)) >>= λ q. letters_from q bytes)

-- the board, and the bytes after its line
unfoldable pub board_at : List ℕ → Result (Board × List ℕ) Stop
board_at bytes = do
  head ← after_text (codes "board ") bytes
  cols ← size_at cols_of head
  gap ← after_text (codes " ") cols.1
  rows ← size_at rows_of gap
  len ← length_at rows.1
  rest ← after_text (10 ∷ codes "moves ") len.1
  Ok (record { cols = cols.0; rows = rows.0; len = len.0 }, rest)

unfoldable pub read_game : List ℕ → Result Position Stop
read_game bytes = do
  line ← board_at bytes
  moves_at (empty_position line.0) line.1

-- the fault at a stop, in a text of so many bytes
abbrev pub placed : {X : Type 0} → ℕ → Result X Stop → Result X InputFault
placed size (Ok x) = Ok x
placed size (Err s) = Err (record { kind = s.kind; at = size - s.left })

-- the position that a text is the game of, or its first fault
unfoldable pub game_at : List ℕ → Result Position InputFault
game_at bytes = placed (length bytes) (read_game bytes)
