-- A text of a game has the fault of a kind at a place exactly where the table of the kinds says so.
use Rattle.std.proofs.Common.{◌≡◌, ◌≢◌, ℕ, ◌+◌, ◌-◌, ◌<◌, Bool, true, false, ◌==◌, cond, List, [], ◌∷◌, ◌++◌, map, length, Option, Some, None, Result, Ok, Err}
use Rattle.std.proofs.Common.{codes, refl, sym, ap, ◌∙◌, subst, append_assoc, append-nil, inl, inr, arith}
use Rattle.std.specs.List.{prefix_len}
use Rattle.std.specs.Fmt.{decimal}
use Rattle.std.proofs.lemmas.Bool.{and_parts, and_from, eqb-true, eq-eqb, ne_eqb, both_ways}
use Rattle.std.proofs.lemmas.List.{length-append, length-replicate, map-append}
use Rattle.game_rules.specs.Board.{Board, is_board, is_cols, is_rows}
use Rattle.game_rules.specs.Position.{Position, empty_position, played}
use Rattle.game_rules.specs.Text.{stop, ◌>>=◌, after_text, is_digit, cols_of, rows_of, line_of, size_at, length_at, letter_read, at_end, letters_from}
use Rattle.game_rules.specs.Text.{after_dash, moves_at}
use Rattle.game_rules.specs.Text.{board_at, read_game, placed, game_at}
use Rattle.game_rules.specs.Grammar.{letter_of, board_line, length_text, game_text}
use Rattle.game_rules.specs.Faults.{fault_at, IsAt, IsOther, run_of, IsBadHeader, IsBadSize, up_to, IsUpTo, IsMove, IsNoLetter, IsNoItem, IsBadColumn}
use Rattle.game_rules.specs.Faults.{IsGameOver, IsColumnFull, IsTrailing}
use Rattle.game_rules.specs.declared.Stop.{Stop}
use Rattle.game_rules.specs.declared.InputFault.{InputFault}
use Rattle.game_rules.specs.declared.InputKind.{InputKind}
use Rattle.game_rules.specs.declared.InputKind.TheVariants.{BadHeader, BadSize, BadColumn, ColumnFull, GameOver, Trailing}
use Rattle.game_rules.proofs.Lists.{chosen}
use Rattle.game_rules.proofs.Readers.{after_text_gives, after_text_of, size_gives, letter_moves}
use Rattle.game_rules.proofs.BoardLine.{long_cols, long_rows, cols_give, rows_give, line_gives, length_gives, cols_spelled, rows_spelled, size_of, length_of}
use Rattle.game_rules.proofs.BoardLine.{length_ends_rows, line_parted, rest_of_line, length_on, rows_on, gap_on, cols_on, board_at_steps}
use Rattle.game_rules.proofs.BoardLine.{board_gives, board_of_spelling}
use Rattle.game_rules.specs.declared.Length.{Length}
use Rattle.game_rules.specs.declared.Length.TheVariants.{Four}
use Rattle.game_rules.proofs.Grammar.{board_along}
use Rattle.game_rules.proofs.FaultReaders.{bind_err, text_stop, text_stops, run_none, size_ends, size_stop, size_stops, length_ends, length_stop}
use Rattle.game_rules.proofs.FaultReaders.{Letterless, LetterStop, no_letter, over, full, letter_stop, letterless_stops, over_stops, full_stops}
use Rattle.game_rules.proofs.FaultReaders.{moves_read, played_push}

-- what the table says of a kind
abbrev pub FaultOf : InputKind → List ℕ → List ℕ → Type 0
FaultOf BadHeader = IsBadHeader
FaultOf BadSize = IsBadSize
FaultOf BadColumn = IsBadColumn
FaultOf ColumnFull = IsColumnFull
FaultOf GameOver = IsGameOver
FaultOf Trailing = IsTrailing

-- reading stops there, as the table says
record Stopped (bytes : List ℕ) (s : Stop) : Type 0 where
  pub before : List ℕ
  pub behind : List ℕ
  pub whole : bytes ≡ before ++ behind
  pub left : s.left ≡ length behind
  pub is : FaultOf s.kind before behind

stopped : (kind : InputKind) (bytes before behind : List ℕ) (s : Stop) → s ≡ record { kind = kind; left = length behind } → bytes ≡ before ++ behind
    → FaultOf kind before behind → Stopped bytes s
stopped kind bytes before behind s e whole is = record {
  before = before;
  behind = behind;
  whole = whole;
  left = ap (λ (s : Stop). s.left) e;
  is = subst (λ (kind : InputKind). FaultOf kind before behind) (sym (ap (λ (s : Stop). s.kind) e)) is;
}

-- ---- the line of the board

-- the only byte of a text of one byte
only_byte : (x : ℕ) (before : List ℕ) (byte : ℕ) (later : List ℕ) → x ∷ [] ≡ before ++ byte ∷ later → (before ≡ []) × (byte ≡ x)
only_byte x [] byte later e = (refl, cc)
only_byte x (b ∷ []) byte later e = cc
only_byte x (b ∷ c ∷ before) byte later e = cc

no_size : (spelled : List ℕ → Option ℕ) (is : ℕ → Bool) → ((n : ℕ) → is n ≡ true → spelled (decimal n) ≡ Some n) → (run : List ℕ) → spelled run ≡ None → (n : ℕ)
    → is n ≡ true → run ≢ decimal n
no_size spelled is of run none n h e = cc (ap spelled e, of n h, none)

no_line : (run : List ℕ) → line_of run ≡ None → run ≢ codes "5"
no_line run none e = cc (e, none)

line_none : (run : List ℕ) → run ≢ codes "5" → line_of run ≡ None
line_none run other = at (line_of run) refl
  where
    at : (found : Option Length) → line_of run ≡ found → found ≡ None
    at None e = refl
    at (Some len) e = absurd (other (line_gives run len e).1)

size_none : (spelled : List ℕ → Option ℕ) (is : ℕ → Bool) → ((run : List ℕ) (n : ℕ) → spelled run ≡ Some n → (is n ≡ true) × (run ≡ decimal n)) → (run : List ℕ)
    → ((n : ℕ) → is n ≡ true → run ≢ decimal n) → spelled run ≡ None
size_none spelled is gives run none = at (spelled run) refl
  where
    at : (found : Option ℕ) → spelled run ≡ found → found ≡ None
    at None e = refl
    at (Some n) e = let given = gives run n e in absurd (none n given.0 given.1)

-- the parts of the line up to the rows, put together
gap_whole : (cols rest : List ℕ) → codes "board " ++ (cols ++ (codes " " ++ rest)) ≡ (codes "board " ++ (cols ++ codes " ")) ++ rest
gap_whole cols rest = sym (append_assoc (codes "board ") (cols ++ codes " ") rest ∙ ap (λ more. codes "board " ++ more) (append_assoc cols (codes " ") rest))

-- the whole line of a board
rest_stop : (board : Board) (rest bytes : List ℕ) (s : Stop) → is_board board ≡ true → run_of rest ≡ [] → (board.len ≡ Four → IsOther 32 rest)
    → bytes ≡ board_line board ++ rest → rest_of_line board.cols board.rows board.len rest ≡ Err s → Stopped bytes s
rest_stop board rest bytes s has_board ends other whole h =
    elim (bind_err (after_text (10 ∷ codes "moves ") rest) (λ rest. Ok (board, rest)) s h) [
      | inr read ↦ absurd (cc (read.2))
      | inl failed ↦
          let t = text_stop (10 ∷ codes "moves ") rest s failed in
          stopped BadHeader bytes (board_line board ++ t.before) t.behind s t.is_stop
          (whole ∙ ap (λ rest. board_line board ++ rest) t.whole ∙ sym (append_assoc (board_line board) t.before t.behind))
          (inr (inr (record {
            board = board;
            part = t.before;
            byte = t.byte;
            later = t.later;
            has_board = has_board;
            is_before = refl;
            fixed = t.fixed;
            run_ends = λ none. ap run_of (sym (t.whole ∙ ap (λ part. part ++ t.behind) none)) ∙ ends;
            no_length = λ none four. subst (IsOther 32) (t.whole ∙ ap (λ part. part ++ t.behind) none) (other four);
            other = t.other;
          })))
    ]

-- behind the rows
length_fault : (board : Board) (rest bytes : List ℕ) (s : Stop) → is_board board ≡ true → board.len ≡ Four → run_of rest ≡ []
    → bytes ≡ board_line board ++ rest → length_on board.cols board.rows rest ≡ Err s → Stopped bytes s
length_fault board rest bytes s has_board untold ends whole h =
    elim (bind_err (length_at rest) (λ len. rest_of_line board.cols board.rows len.0 len.1) s h) [
      | inl failed ↦
          let t = length_stop rest s failed in
          stopped BadSize bytes (board_line board ++ codes " ") t.behind s t.is_stop
          (whole ∙ ap (λ rest. board_line board ++ rest) t.whole ∙ sym (append_assoc (board_line board) (codes " ") t.behind))
          (inr (inr (record { board = board; has_board = has_board; untold = untold; is_before = refl; none = no_line (run_of t.behind) t.none })))
      | inr read ↦
          let x = read.0 in
          let behind = length_ends rest x read.1 ends in
          rest_stop (record board { len = x.0 }) x.1 bytes s has_board behind.0 behind.1
          (whole ∙ ap (λ rest. board_line board ++ rest) (length_gives rest x read.1) ∙ told x.0 x.1) read.2
    ]
  where
    told : (len : Length) (rest : List ℕ) → board_line board ++ (length_text len ++ rest) ≡ board_line (record board { len = len }) ++ rest
    told len rest = ap (λ (four : Length). board_line (record board { len = four }) ++ (length_text len ++ rest)) untold
        ∙ sym (line_parted (decimal board.cols) (decimal board.rows) [] (length_text len ++ rest))
        ∙ line_parted (decimal board.cols) (decimal board.rows) (length_text len) rest

rows_stop : (cols : ℕ) (rest bytes : List ℕ) (s : Stop) → is_cols cols ≡ true → bytes ≡ codes "board " ++ (decimal cols ++ (codes " " ++ rest))
    → rows_on cols rest ≡ Err s → Stopped bytes s
rows_stop cols rest bytes s has_cols whole h = elim (bind_err (size_at rows_of rest) (λ rows. length_on cols rows.0 rows.1) s h) [
  | inl failed ↦
      let size = size_stop rows_of rest s failed in
      stopped BadSize bytes (codes "board " ++ (decimal cols ++ codes " ")) rest s size.1 (whole ∙ gap_whole (decimal cols) rest)
      (inr (inl (record {
        cols = cols;
        has_cols = has_cols;
        is_before = refl;
        none = no_size rows_of is_rows (λ n rows. (rows_spelled n rows).0) (run_of rest) size.0;
      })))
  | inr read ↦
      let x = read.0 in
      let size = size_gives 2 rows_of long_rows rest x read.1 in
      let number = rows_give (run_of rest) x.0 size.0 in
      length_fault (record { cols = cols; rows = x.0; len = Four }) x.1 bytes s (and_from _ _ has_cols number.0) refl (size_ends rows_of rest x read.1)
      (whole ∙ ap (λ rest. codes "board " ++ (decimal cols ++ (codes " " ++ rest))) (size.1 ∙ ap (λ run. run ++ x.1) number.1)
      ∙ line_parted (decimal cols) (decimal x.0) [] x.1) read.2
]

gap_stop : (cols : ℕ) (rest bytes : List ℕ) (s : Stop) → is_cols cols ≡ true → run_of rest ≡ [] → bytes ≡ codes "board " ++ (decimal cols ++ rest)
    → gap_on cols rest ≡ Err s → Stopped bytes s
gap_stop cols rest bytes s has_cols ends whole h = elim (bind_err (after_text (codes " ") rest) (λ gap. rows_on cols gap) s h) [
  | inl failed ↦
      let t = text_stop (codes " ") rest s failed in
      let one = only_byte 32 t.before t.byte t.later t.fixed in
      let is_rest : rest ≡ t.behind = t.whole ∙ ap (λ before. before ++ t.behind) one.0 in
      stopped BadHeader bytes (codes "board " ++ decimal cols) t.behind s t.is_stop
      (whole ∙ ap (λ rest. codes "board " ++ (decimal cols ++ rest)) is_rest ∙ sym (append_assoc (codes "board ") (decimal cols) t.behind))
      (inr (inl (record {
        cols = cols;
        has_cols = has_cols;
        is_before = refl;
        run_ends = ap run_of (sym is_rest)
            ∙ ends;
        other = subst (λ x. IsOther x t.behind) one.1 t.other;
      })))
  | inr read ↦ rows_stop cols read.0 bytes s has_cols
      (whole ∙ ap (λ rest. codes "board " ++ (decimal cols ++ rest)) (after_text_gives (codes " ") rest read.0 read.1)) read.2
]

board_stop : (bytes : List ℕ) (s : Stop) → board_at bytes ≡ Err s → Stopped bytes s
board_stop bytes s h = elim (bind_err (after_text (codes "board ") bytes) cols_on s (sym (board_at_steps bytes) ∙ h)) [
  | inl failed ↦
      let t = text_stop (codes "board ") bytes s failed in
      stopped BadHeader bytes t.before t.behind s t.is_stop t.whole (inl (record { byte = t.byte; later = t.later; fixed = t.fixed; other = t.other }))
  | inr read ↦ of_cols read.0 (after_text_gives (codes "board ") bytes read.0 read.1) read.2
]
  where
    of_cols : (head : List ℕ) → bytes ≡ codes "board " ++ head → cols_on head ≡ Err s → Stopped bytes s
    of_cols head whole h = elim (bind_err (size_at cols_of head) (λ cols. gap_on cols.0 cols.1) s h) [
      | inl failed ↦
          let size = size_stop cols_of head s failed in
          stopped BadSize bytes (codes "board ") head s size.1 whole
          (inl (record { is_before = refl; none = no_size cols_of is_cols (λ n cols. (cols_spelled n cols).0) (run_of head) size.0 }))
      | inr read ↦
          let x = read.0 in
          let size = size_gives 2 cols_of long_cols head x read.1 in
          let number = cols_give (run_of head) x.0 size.0 in
          gap_stop x.0 x.1 bytes s number.0 (size_ends cols_of head x read.1)
          (whole ∙ ap (λ head. codes "board " ++ head) (size.1 ∙ ap (λ run. run ++ x.1) number.1)) read.2
    ]

-- ---- the list of moves

up_to_more : (board : Board) (columns more : List ℕ)
    → up_to board columns ++ more ≡ board_line board ++ (10 ∷ (codes "moves " ++ (map letter_of columns ++ more)))
up_to_more board columns more = append_assoc (board_line board) (10 ∷ (codes "moves " ++ map letter_of columns)) more
    ∙ ap (λ rest. board_line board ++ (10 ∷ rest)) (append_assoc (codes "moves ") (map letter_of columns) more)

up_to_push : (board : Board) (columns : List ℕ) (column : ℕ) (more : List ℕ)
    → up_to board (columns ++ column ∷ []) ++ more ≡ up_to board columns ++ letter_of column ∷ more
up_to_push board columns column more =
    up_to_more board (columns ++ column ∷ []) more
    ∙ ap (λ letters. board_line board ++ (10 ∷ (codes "moves " ++ (letters ++ more)))) (map-append letter_of columns (column ∷ []))
    ∙ ap (λ rest. board_line board ++ (10 ∷ (codes "moves " ++ rest))) (append_assoc (map letter_of columns) (letter_of column ∷ []) more)
    ∙ sym (up_to_more board columns (letter_of column ∷ more))

-- the whole text of some moves
text_whole : (board : Board) (first : ℕ) (columns more : List ℕ) → up_to board (first ∷ columns) ++ 10 ∷ more ≡ game_text board (first ∷ columns) true ++ more
text_whole board first columns more =
    up_to_more board (first ∷ columns) (10 ∷ more)
    ∙ ap (λ rest. board_line board ++ (10 ∷ rest)) (sym (append_assoc (codes "moves ") (map letter_of (first ∷ columns)) (10 ∷ more))
    ∙ sym (append_assoc (codes "moves " ++ map letter_of (first ∷ columns)) (10 ∷ []) more))
    ∙ sym (append_assoc (board_line board) (10 ∷ ((codes "moves " ++ map letter_of (first ∷ columns)) ++ 10 ∷ [])) more)

dash_whole : (board : Board) (ended : Bool) (more : List ℕ) → board_line board ++ (10 ∷ (codes "moves " ++ (45 ∷ (cond ended (10 ∷ []) [] ++ more))))
    ≡ game_text board [] ended ++ more
dash_whole board true more = sym (append_assoc (board_line board) (10 ∷ ((codes "moves " ++ codes "-") ++ 10 ∷ [])) more)
dash_whole board false more = sym (append_assoc (board_line board) (10 ∷ ((codes "moves " ++ codes "-") ++ [])) more)

cols_along : (board : Board) (columns : List ℕ) (p : Position) → played (empty_position board) columns ≡ Some p → length p.columns ≡ board.cols
cols_along board columns p h = ap (λ (b : Board). b.cols) (board_along columns (empty_position board) p h) ∙ length-replicate board.cols []

-- a letter that isn't read
letter_fault : (board : Board) (columns : List ℕ) (p : Position) (byte : ℕ) (more : List ℕ) (s : Stop) → is_board board ≡ true
    → played (empty_position board) columns ≡ Some p
    → (IsNoLetter board byte → IsNoItem board columns (byte ∷ more)) → LetterStop p byte (length (byte ∷ more)) s
    → Stopped (up_to board columns ++ byte ∷ more) s
letter_fault board columns p byte more s has_board has_moves item why = at why
  where
    is_up_to : IsUpTo (up_to board columns) board columns p
    is_up_to = record { has_board = has_board; has_moves = has_moves; is_before = refl }

    on : (column : ℕ) → column < length p.columns → column < board.cols
    on column low = let same : length p.columns ≡ board.cols = cols_along board columns p has_moves in omega arith

    back : (column : ℕ) → column < board.cols → column < length p.columns
    back column low = let same : length p.columns ≡ board.cols = cols_along board columns p has_moves in omega arith

    letter : (column : ℕ) → byte ≡ letter_of column → column < length p.columns → IsMove (up_to board columns) (byte ∷ more) p column
    letter column is low = record {
      board = board;
      columns = columns;
      more = more;
      up_to = is_up_to;
      is_behind = ap (λ byte. byte ∷ more) is;
      on_board =
          on column low;
    }

    at : LetterStop p byte (length (byte ∷ more)) s → Stopped (up_to board columns ++ byte ∷ more) s
    at (no_letter none e) = stopped BadColumn _ (up_to board columns) (byte ∷ more) s e refl
        (record { board = board; columns = columns; p = p; up_to = is_up_to; none = item (λ column low. none column (back column low)) })
    at (over column ending is low ended e) = stopped GameOver _ (up_to board columns) (byte ∷ more) s e refl
        (record { p = p; column = column; letter = letter column is low; ending = ending; ended = ended })
    at (full column is low goes_on none e) = stopped ColumnFull _ (up_to board columns) (byte ∷ more) s e refl
        (record { p = p; column = column; letter = letter column is low; goes_on = goes_on; full = none })

letters_stop : (board : Board) (first : ℕ) (columns : List ℕ) (p : Position) (bytes : List ℕ) (s : Stop) → is_board board ≡ true
    → played (empty_position board) (first ∷ columns) ≡ Some p
    → letters_from p bytes ≡ Err s → Stopped (up_to board (first ∷ columns) ++ bytes) s
letters_stop board first columns p [] s has_board has_moves h = cc
letters_stop board first columns p (byte ∷ bytes) s has_board has_moves h = elim (chosen (byte == 10) (at_end p bytes) _ (Err s) h) [
  | inl feed ↦ subst (λ byte. Stopped (up_to board (first ∷ columns) ++ byte ∷ bytes) s) (sym (eqb-true byte 10 feed.0)) (behind_feed bytes feed.1)
  | inr other ↦ elim (bind_err (letter_read p byte (length (byte ∷ bytes))) (λ q. letters_from q bytes) s other.1) [
    | inl failed ↦ letter_fault board (first ∷ columns) p byte bytes s has_board has_moves
        (λ none. (λ same. both_ways (byte == 10) other.0 (eq-eqb byte 10 same), none)) (letter_stop p byte (length (byte ∷ bytes)) s failed)
    | inr read ↦
        let letter = letter_moves p read.0 byte (length (byte ∷ bytes)) read.1 in
        let moves : played (empty_position board) (first ∷ (columns ++ letter.0 ∷ [])) ≡ Some read.0 = played_push (first ∷ columns) (empty_position board) p
        letter.0 has_moves letter.2 ∙ ap Some (sym letter.3) in
        let rest = letters_stop board first (columns ++ letter.0 ∷ []) read.0 bytes s has_board moves read.2 in
        subst (λ text. Stopped text s) (up_to_push board (first ∷ columns) letter.0 bytes
        ∙ ap (λ byte. up_to board (first ∷ columns) ++ byte ∷ bytes) (sym letter.1)) rest
  ]
]
  where
    behind_feed : (bytes : List ℕ) → at_end p bytes ≡ Err s → Stopped (up_to board (first ∷ columns) ++ 10 ∷ bytes) s
    behind_feed [] h = cc
    behind_feed (next ∷ more) h = stopped Trailing _ (game_text board (first ∷ columns) true) (next ∷ more) s (cc)
        (text_whole board first columns (next ∷ more))
        (inl (record {
          board = board;
          columns = first ∷ columns;
          p = p;
          byte = next;
          more = more;
          has_board = has_board;
          has_moves = has_moves;
          is_before =
              refl;
          is_behind = refl;
        }))

-- the list itself
list_stop : (board : Board) (rest : List ℕ) (s : Stop) → is_board board ≡ true → moves_at (empty_position board) rest ≡ Err s
    → Stopped (board_line board ++ (10 ∷ (codes "moves " ++ rest))) s
list_stop board [] s has_board h = stopped BadColumn _ (up_to board []) [] s (cc) (sym (append-nil (up_to board [])))
    (record { board = board; columns = []; p = empty_position board; up_to = record { has_board = has_board; has_moves = refl; is_before = refl }; none = tt })
list_stop board (byte ∷ bytes) s has_board h = elim (chosen (byte == 45) (after_dash (empty_position board) bytes) _ (Err s) h) [
  | inl dash ↦ subst (λ byte. Stopped (board_line board ++ (10 ∷ (codes "moves " ++ byte ∷ bytes))) s) (sym (eqb-true byte 45 dash.0))
      (behind_dash bytes dash.1)
  | inr other ↦ elim (bind_err (letter_read (empty_position board) byte (length (byte ∷ bytes))) (λ q. letters_from q bytes) s other.1) [
    | inl failed ↦ subst (λ text. Stopped text s) (up_to_more board [] (byte ∷ bytes))
        (letter_fault board [] (empty_position board) byte bytes s has_board refl (λ none. (λ same. both_ways (byte == 45) other.0 (eq-eqb byte 45 same), none))
        (letter_stop (empty_position board) byte (length (byte ∷ bytes)) s failed))
    | inr read ↦
        let letter = letter_moves (empty_position board) read.0 byte (length (byte ∷ bytes)) read.1 in
        let moves : played (empty_position board) (letter.0 ∷ []) ≡ Some read.0 = played_push [] (empty_position board) (empty_position board) letter.0 refl
        letter.2 ∙ ap Some (sym letter.3) in
        let rest = letters_stop board letter.0 [] read.0 bytes s has_board moves read.2 in
        subst (λ text. Stopped text s) (up_to_more board (letter.0 ∷ []) bytes ∙ ap (λ byte. board_line board ++ (10 ∷ (codes "moves " ++ byte ∷ bytes)))
        (sym letter.1)) rest
  ]
]
  where
    fed_dash : (bytes : List ℕ) → at_end (empty_position board) bytes ≡ Err s → Stopped (board_line board ++ (10 ∷ (codes "moves " ++ 45 ∷ 10 ∷ bytes))) s
    fed_dash [] h = cc
    fed_dash (next ∷ more) h = stopped Trailing _ (game_text board [] true) (next ∷ more) s (cc) (dash_whole board true (next ∷ more))
        (inl (record {
          board = board;
          columns = [];
          p = empty_position board;
          byte = next;
          more = more;
          has_board = has_board;
          has_moves = refl;
          is_before =
              refl;
          is_behind = refl;
        }))

    behind_dash : (bytes : List ℕ) → after_dash (empty_position board) bytes ≡ Err s → Stopped (board_line board ++ (10 ∷ (codes "moves " ++ 45 ∷ bytes))) s
    behind_dash [] h = cc
    behind_dash (next ∷ more) h = elim (chosen (next == 10) (at_end (empty_position board) more) (stop Trailing (length (next ∷ more))) (Err s) h) [
      | inl feed ↦ subst (λ next. Stopped (board_line board ++ (10 ∷ (codes "moves " ++ 45 ∷ next ∷ more))) s) (sym (eqb-true next 10 feed.0))
          (fed_dash more feed.1)
      | inr other ↦ stopped Trailing _ (game_text board [] false) (next ∷ more) s (is_stop other.1) (dash_whole board false (next ∷ more))
          (inr (record {
            board = board;
            byte = next;
            more = more;
            has_board = has_board;
            is_before = refl;
            is_behind = refl;
            no_feed = λ same.
                both_ways (next == 10) other.0 (eq-eqb next 10 same);
          }))
    ]
      where
        is_stop : stop {X = Position} Trailing (length (next ∷ more)) ≡ Err s → s ≡ record { kind = Trailing; left = length (next ∷ more) }
        is_stop h = cc

-- ---- a text that is no game has a fault of the table

game_stop : (bytes : List ℕ) (s : Stop) → read_game bytes ≡ Err s → Stopped bytes s
unfolding read_game
game_stop bytes s h = elim (bind_err (board_at bytes) (λ line. moves_at (empty_position line.0) line.1) s h) [
  | inl failed ↦ board_stop bytes s failed
  | inr read ↦
      let line = board_gives bytes read.0 read.1 in
      subst (λ text. Stopped text s) (sym line.1) (list_stop read.0.0 read.0.1 s line.0 read.2)
]

pub fault_gives : (kind : InputKind) (bytes : List ℕ) (at : ℕ) → game_at bytes ≡ Err (fault_at kind at) → IsAt bytes at (FaultOf kind)
unfolding game_at
fault_gives kind bytes at h = given (read_game bytes) refl h
  where
    given : (r : Result Position Stop) → read_game bytes ≡ r → placed (length bytes) r ≡ Err (fault_at kind at) → IsAt bytes at (FaultOf kind)
    given (Ok p) e h = cc
    given (Err s) e h =
        let t = game_stop bytes s e in
        let fault : fault_at s.kind (length bytes - s.left) ≡ fault_at kind at = cc (h) in
        let size : length bytes ≡ length t.before + length t.behind = ap length t.whole ∙ length-append t.before t.behind in
        let place : length bytes - s.left ≡ at = ap (λ (f : InputFault). f.at) fault in
        let left : s.left ≡ length t.behind = t.left in
        record {
          before = t.before;
          behind = t.behind;
          whole = t.whole;
          place = omega (arith, size, place, left);
          is = subst (λ kind. FaultOf kind t.before t.behind) (ap (λ (f : InputFault). f.kind) fault) t.is;
        }

-- ---- a text with a fault of the table is no game

-- the parts of the line of the board are read one after the other
cols_next : (rest : List ℕ) → board_at (codes "board " ++ rest) ≡ cols_on rest
cols_next rest = board_at_steps (codes "board " ++ rest) ∙ ap (λ r. r >>= cols_on) (after_text_of (codes "board ") rest)

gap_next : (cols : ℕ) (rest : List ℕ) → is_cols cols ≡ true → prefix_len is_digit rest ≡ 0
    → board_at (codes "board " ++ (decimal cols ++ rest)) ≡ gap_on cols rest
gap_next cols rest has_cols ends =
    let spelled = cols_spelled cols has_cols in
    cols_next (decimal cols ++ rest) ∙ ap (λ r. r >>= λ cols. gap_on cols.0 cols.1) (size_of cols_of (decimal cols) rest cols spelled.0 spelled.1 ends)

rows_next : (cols : ℕ) (rest : List ℕ) → is_cols cols ≡ true → board_at (codes "board " ++ (decimal cols ++ (codes " " ++ rest))) ≡ rows_on cols rest
rows_next cols rest has_cols = gap_next cols (codes " " ++ rest) has_cols refl ∙ ap (λ r. r >>= λ gap. rows_on cols gap) (after_text_of (codes " ") rest)

length_next : (board : Board) (rest : List ℕ) → is_board board ≡ true → prefix_len is_digit rest ≡ 0
    → board_at (board_line board ++ rest) ≡ length_on board.cols board.rows (length_text board.len ++ rest)
length_next board rest has_board ends =
    let both = and_parts (is_cols board.cols) (is_rows board.rows) has_board in
    let spelled = rows_spelled board.rows both.1 in
    let len : List ℕ = length_text board.len ++ rest in
    ap board_at (sym (line_parted (decimal board.cols) (decimal board.rows) (length_text board.len) rest))
    ∙ rows_next board.cols (decimal board.rows ++ len) both.0
    ∙ ap (λ r. r >>= λ rows. length_on board.cols rows.0 rows.1)
    (size_of rows_of (decimal board.rows) len board.rows spelled.0 spelled.1 (length_ends_rows board.len rest ends))

rest_next : (board : Board) (rest : List ℕ) → is_board board ≡ true → prefix_len is_digit rest ≡ 0 → (board.len ≡ Four → IsOther 32 rest)
    → board_at (board_line board ++ rest) ≡ rest_of_line board.cols board.rows board.len rest
rest_next board rest has_board ends other =
    length_next board rest has_board ends
    ∙ ap (λ r. r >>= λ len. rest_of_line board.cols board.rows len.0 len.1) (length_of board.len rest ends other)

game_next : (bytes : List ℕ) (s : Stop) → board_at bytes ≡ Err s → read_game bytes ≡ Err s
unfolding read_game
game_next bytes s h = ap (λ r. r >>= λ line. moves_at (empty_position line.0) line.1) h

list_next : (board : Board) (columns behind : List ℕ) → is_board board ≡ true
    → read_game (up_to board columns ++ behind) ≡ moves_at (empty_position board) (map letter_of columns ++ behind)
unfolding read_game
list_next board columns behind has_board = ap (λ r. r >>= λ line. moves_at (empty_position line.0) line.1)
    (ap board_at (up_to_more board columns behind) ∙ board_of_spelling board (map letter_of columns ++ behind) has_board)

header_stops : (before behind : List ℕ) → IsBadHeader before behind → read_game (before ++ behind) ≡ stop BadHeader (length behind)
header_stops before behind (inl h) = game_next _ _
    (board_at_steps (before ++ behind)
    ∙ ap (λ r. r >>= cols_on) (ap (λ text. after_text text (before ++ behind)) h.fixed ∙ text_stops before h.byte h.later behind h.other))
header_stops before behind (inr (inl h)) = game_next _ _
    (ap (λ before. board_at (before ++ behind)) h.is_before
    ∙ ap board_at (append_assoc (codes "board ") (decimal h.cols) behind)
    ∙ gap_next h.cols behind h.has_cols (run_none behind h.run_ends)
    ∙ ap (λ r. r >>= λ gap. rows_on h.cols gap) (text_stops [] 32 [] behind h.other))
header_stops before behind (inr (inr h)) = game_next _ _
    (ap (λ before. board_at (before ++ behind)) h.is_before
    ∙ ap board_at (append_assoc (board_line h.board) h.part behind)
    ∙ rest_next h.board (h.part ++ behind) h.has_board (ends h.part h.fixed h.run_ends) (other h.part h.fixed h.no_length)
    ∙ ap (λ r. r >>= λ rest. Ok (h.board, rest))
    (ap (λ text. after_text text (h.part ++ behind)) h.fixed ∙ text_stops h.part h.byte h.later behind h.other))
  where
    ends : (part : List ℕ) → 10 ∷ codes "moves " ≡ part ++ h.byte ∷ h.later → (part ≡ [] → run_of behind ≡ []) → prefix_len is_digit (part ++ behind) ≡ 0
    ends [] fixed none = run_none behind (none refl)
    ends (b ∷ part) fixed none = let feed : b ≡ 10 = cc in rw feed refl

    other : (part : List ℕ) → 10 ∷ codes "moves " ≡ part ++ h.byte ∷ h.later → (part ≡ [] → h.board.len ≡ Four → IsOther 32 behind) → h.board.len ≡ Four
        → IsOther 32 (part ++ behind)
    other [] fixed none four = none refl four
    other (b ∷ part) fixed none four = let feed : b ≡ 10 = cc in λ (e : b ≡ 32). omega arith

size_stopped : (before behind : List ℕ) → IsBadSize before behind → read_game (before ++ behind) ≡ stop BadSize (length behind)
size_stopped before behind (inl h) = game_next _ _
    (ap (λ before. board_at (before ++ behind)) h.is_before
    ∙ cols_next behind
    ∙ ap (λ r. r >>= λ cols. gap_on cols.0 cols.1) (size_stops cols_of behind (size_none cols_of is_cols cols_give (run_of behind) h.none)))
size_stopped before behind (inr (inl h)) = game_next _ _
    (ap (λ before. board_at (before ++ behind)) h.is_before
    ∙ ap board_at (sym (gap_whole (decimal h.cols) behind))
    ∙ rows_next h.cols behind h.has_cols
    ∙ ap (λ r. r >>= λ rows. length_on h.cols rows.0 rows.1) (size_stops rows_of behind (size_none rows_of is_rows rows_give (run_of behind) h.none)))
size_stopped before behind (inr (inr h)) = game_next _ _
    (ap (λ before. board_at (before ++ behind)) h.is_before
    ∙ ap board_at (append_assoc (board_line h.board) (codes " ") behind)
    ∙ length_next h.board (codes " " ++ behind) h.has_board refl
    ∙ ap (λ len. length_on h.board.cols h.board.rows (length_text len ++ (codes " " ++ behind))) h.untold
    ∙ ap (λ r. r >>= λ len. rest_of_line h.board.cols h.board.rows len.0 len.1) (size_stops line_of behind (line_none (run_of behind) h.none)))

-- a byte that isn't read as a letter stops the list; it is no `-` at its begin, and no line feed later
abbrev NoEnd : List ℕ → ℕ → Type 0
NoEnd [] byte = byte ≢ 45
NoEnd (column ∷ columns) byte = byte ≢ 10

letter_ends : (columns : List ℕ) (p q : Position) (byte : ℕ) (more : List ℕ) (s : Stop) → played p columns ≡ Some q → NoEnd columns byte
    → letter_read q byte (length (byte ∷ more)) ≡ Err s
    → moves_at p (map letter_of columns ++ byte ∷ more) ≡ Err s
letter_ends [] p q byte more s h none e =
    let same : p ≡ q = cc in
    rw (ne_eqb byte 45 none) (ap (λ r. r >>= λ next. letters_from next more) (ap (λ p. letter_read p byte (length (byte ∷ more))) same ∙ e))
letter_ends (column ∷ columns) p q byte more s h none e = moves_read column columns p q (byte ∷ more) h ∙ letters
  where
    letters : letters_from q (byte ∷ more) ≡ Err s
    letters = rw (ne_eqb byte 10 none) (ap (λ r. r >>= λ next. letters_from next more) e)

-- no letter is `-` or a line feed
letter_no_end : (columns : List ℕ) (column : ℕ) → NoEnd columns (letter_of column)
letter_no_end [] column = λ (e : letter_of column ≡ 45). omega arith
letter_no_end (first ∷ columns) column = λ (e : letter_of column ≡ 10). omega arith

-- the list of moves, up to the place
at_list : (before behind : List ℕ) (board : Board) (columns : List ℕ) (p : Position) → IsUpTo before board columns p
    → read_game (before ++ behind) ≡ moves_at (empty_position board) (map letter_of columns ++ behind)
at_list before behind board columns p h = ap (λ before. read_game (before ++ behind)) h.is_before ∙ list_next board columns behind h.has_board

column_stops : (before behind : List ℕ) → IsBadColumn before behind → read_game (before ++ behind) ≡ stop BadColumn (length behind)
column_stops before behind h = at_list before behind h.board h.columns h.p h.up_to ∙ at h.columns behind h.up_to.has_moves h.none
  where
    letterless : (columns : List ℕ) (byte : ℕ) → played (empty_position h.board) columns ≡ Some h.p → IsNoLetter h.board byte → Letterless h.p byte
    letterless columns byte moves none column low = let same : length h.p.columns ≡ h.board.cols = cols_along h.board columns h.p moves in
        none column (omega arith)

    at : (columns behind : List ℕ) → played (empty_position h.board) columns ≡ Some h.p → IsNoItem h.board columns behind
        → moves_at (empty_position h.board) (map letter_of columns ++ behind) ≡ stop BadColumn (length behind)
    at [] [] moves none = refl
    at [] (byte ∷ more) moves none = letter_ends [] (empty_position h.board) h.p byte more _ moves none.0
        (letterless_stops h.p byte (length (byte ∷ more)) (letterless [] byte moves none.1))
    at (column ∷ columns) [] moves none = absurd none
    at (column ∷ columns) (byte ∷ more) moves none =
        letter_ends (column ∷ columns) (empty_position h.board) h.p byte more _ moves none.0
        (letterless_stops h.p byte (length (byte ∷ more)) (letterless (column ∷ columns) byte moves none.1))

-- a letter of the board stands at the place
move_stops : (before behind : List ℕ) (p : Position) (column : ℕ) (kind : InputKind) → IsMove before behind p column
    → ((left : ℕ) → column < length p.columns → letter_read p (letter_of column) left ≡ stop kind left)
    → read_game (before ++ behind) ≡ stop kind (length behind)
move_stops before behind p column kind h stops =
    let same : length p.columns ≡ h.board.cols = cols_along h.board h.columns p h.up_to.has_moves in
    let low : column < h.board.cols = h.on_board in
    at_list before behind h.board h.columns p h.up_to
    ∙ ap (λ behind. moves_at (empty_position h.board) (map letter_of h.columns ++ behind)) h.is_behind
    ∙ letter_ends h.columns (empty_position h.board) p (letter_of column) h.more _ h.up_to.has_moves (letter_no_end h.columns column)
    (stops (length (letter_of column ∷ h.more)) (omega arith))
    ∙ ap (λ behind. stop kind (length behind)) (sym h.is_behind)

over_stopped : (before behind : List ℕ) → IsGameOver before behind → read_game (before ++ behind) ≡ stop GameOver (length behind)
over_stopped before behind h = move_stops before behind h.p h.column GameOver h.letter (λ left low. over_stops h.p h.column left h.ending low h.ended)

full_stopped : (before behind : List ℕ) → IsColumnFull before behind → read_game (before ++ behind) ≡ stop ColumnFull (length behind)
full_stopped before behind h = move_stops before behind h.p h.column ColumnFull h.letter (λ left low. full_stops h.p h.column left low h.goes_on h.full)

trailing_stops : (before behind : List ℕ) → IsTrailing before behind → read_game (before ++ behind) ≡ stop Trailing (length behind)
trailing_stops before behind (inl h) =
    ap (λ before. read_game (before ++ behind)) h.is_before ∙ ap (λ behind. read_game (game_text h.board h.columns true ++ behind)) h.is_behind
    ∙ at h.columns h.has_moves ∙ ap (λ behind. stop Trailing (length behind)) (sym h.is_behind)
  where
    at : (columns : List ℕ) → played (empty_position h.board) columns ≡ Some h.p
        → read_game (game_text h.board columns true ++ h.byte ∷ h.more) ≡ stop Trailing (length (h.byte ∷ h.more))
    at [] moves = ap read_game (sym (dash_whole h.board true (h.byte ∷ h.more)) ∙ sym (up_to_more h.board [] (45 ∷ 10 ∷ h.byte ∷ h.more)))
        ∙ list_next h.board [] (45 ∷ 10 ∷ h.byte ∷ h.more) h.has_board
    at (first ∷ columns) moves = ap read_game (sym (text_whole h.board first columns (h.byte ∷ h.more)))
        ∙ list_next h.board (first ∷ columns) (10 ∷ h.byte ∷ h.more) h.has_board ∙ moves_read first columns (empty_position h.board) h.p (10 ∷ h.byte ∷ h.more)
        moves
trailing_stops before behind (inr h) =
    ap (λ before. read_game (before ++ behind)) h.is_before ∙ ap (λ behind. read_game (game_text h.board [] false ++ behind)) h.is_behind
    ∙ ap read_game (sym (dash_whole h.board false (h.byte ∷ h.more)) ∙ sym (up_to_more h.board [] (45 ∷ h.byte ∷ h.more)))
    ∙ list_next h.board [] (45 ∷ h.byte ∷ h.more) h.has_board ∙ after h.byte h.no_feed ∙ ap (λ behind. stop Trailing (length behind)) (sym h.is_behind)
  where
    after : (byte : ℕ) → byte ≢ 10 → moves_at (empty_position h.board) (45 ∷ byte ∷ h.more) ≡ stop Trailing (length (byte ∷ h.more))
    after byte none = rw (ne_eqb byte 10 none) refl

stops : (kind : InputKind) (before behind : List ℕ) → FaultOf kind before behind → read_game (before ++ behind) ≡ stop kind (length behind)
stops BadHeader = header_stops
stops BadSize = size_stopped
stops BadColumn = column_stops
stops ColumnFull = full_stopped
stops GameOver = over_stopped
stops Trailing = trailing_stops

pub fault_from : (kind : InputKind) (bytes : List ℕ) (at : ℕ) → IsAt bytes at (FaultOf kind) → game_at bytes ≡ Err (fault_at kind at)
unfolding game_at
fault_from kind bytes at h =
    let size : length bytes ≡ length h.before + length h.behind = ap length h.whole ∙ length-append h.before h.behind in
    let place : at ≡ length h.before = h.place in
    ap (placed (length bytes)) (ap read_game h.whole ∙ stops kind h.before h.behind h.is) ∙ ap (λ n. Err (fault_at kind n)) (omega arith)
