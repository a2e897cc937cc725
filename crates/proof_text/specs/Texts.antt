-- Whole texts of proofs: which are right, and what is wrong with the others. A text is taken as a whole list of bytes.
use Rattle.std.specs.Prelude.{◌≡◌, ◌≤◌, ℕ, ◌+◌, Bool, true, ◌==◌, nat_le, if◌then◌else◌, List, [], ◌∷◌, ◌++◌, length, take, filter_map, Option, Some, None, Result, Ok, Err, slice_index_or, codes, bytes_eq, flat_map}
use Rattle.std.specs.List.{slice_split, AllByRecursion}
use Rattle.game_rules.specs.Board.{Board, is_board, below}
use Rattle.game_rules.specs.Position.{Position, board_of, empty_position, played}
use Rattle.game_rules.specs.Text.{game_at}
use Rattle.game_rules.specs.Grammar.{game_text, last_feed}
use Rattle.game_rules.specs.declared.InputFault.{InputFault}
use Rattle.proof_text.specs.Lemma.{Lemma, Line, ALemma, ARemark, AVerdict, has_reason}
use Rattle.proof_text.specs.Right.{Shown, AreRight, IsVerdict}
use Rattle.proof_text.specs.Checked.{Why, unless, or_then, CheckerState, line_refusal, shown_of, with_line, lemmas_in, first_verdict}
use Rattle.proof_text.specs.Spelling.{lemma_text, verdict_text, as_line, is_remark, Fits, VerdictFits}
pub use Rattle.proof_text.specs.Spelling.{longest_line}
use Rattle.proof_text.specs.Reading.{read_line}
use Rattle.proof_text.specs.declared.Verdict.{Verdict}
use Rattle.proof_text.specs.declared.Version.{Version}
use Rattle.proof_text.specs.declared.Version.TheVariants.{One, Two}
use Rattle.proof_text.specs.declared.Why.TheVariants.{BadLine, EndedEarly}

-- ---- lines

abbrev pub is_feed : ℕ → Bool
is_feed byte = byte == 10

-- a text cut at its line feeds; behind the last of them stands one more piece, which may be empty
abbrev pub pieces : List ℕ → List (List ℕ)
pieces bytes = slice_split is_feed bytes

-- an empty last piece is no line
abbrev pub last_line : List ℕ → List (List ℕ)
last_line [] = []
last_line (byte ∷ bytes) = (byte ∷ bytes) ∷ []

abbrev pub lines_in : List (List ℕ) → List (List ℕ)
lines_in [] = []
lines_in (last ∷ []) = last_line last
lines_in (piece ∷ next ∷ more) = piece ∷ lines_in (next ∷ more)

-- how many bytes of a line of the game are looked at, and how many lines there may be
abbrev pub game_prefix : ℕ
game_prefix = 256

abbrev pub most_lines : ℕ
most_lines = 20000000

-- the number of the first line behind the game
abbrev pub first_number : ℕ
first_number = 4

-- ---- the game

-- the two lines of the game, of each its prefix, with their line feeds where they stand in the text
abbrev pub game_of : List (List ℕ) → List ℕ
game_of [] = []
game_of (board ∷ []) = take game_prefix board
game_of (board ∷ moves ∷ []) = take game_prefix board ++ 10 ∷ take game_prefix moves
game_of (board ∷ moves ∷ next ∷ more) = take game_prefix board ++ 10 ∷ as_line (take game_prefix moves)

-- the same with the lines whole
abbrev pub whole_game_of : List (List ℕ) → List ℕ
whole_game_of [] = []
whole_game_of (board ∷ []) = board
whole_game_of (board ∷ moves ∷ []) = board ++ 10 ∷ moves
whole_game_of (board ∷ moves ∷ next ∷ more) = board ++ 10 ∷ as_line moves

-- the lines behind them
abbrev pub behind_game : List (List ℕ) → List (List ℕ)
behind_game [] = []
behind_game (board ∷ []) = []
behind_game (board ∷ moves ∷ more) = lines_in more

-- the lemmas that some lines say, in their order; each line is given by its bytes
abbrev pub lemmas_said : Version → Board → List (List ℕ) → List Lemma
lemmas_said version board lines = lemmas_in (filter_map (read_line version board) lines)

-- ---- the first line that fails

-- what the lemmas of some lines show
abbrev pub shown_by : Position → List Line → List Shown
shown_by root [] = []
shown_by root (ALemma l ∷ lines) = shown_of root l ++ shown_by root lines
shown_by root (ARemark ∷ lines) = shown_by root lines
shown_by root (AVerdict v ∷ lines) = shown_by root lines

-- what stands after the lines, each of them given by its bytes
abbrev pub state_after : Version → Position → List (List ℕ) → CheckerState
state_after version root lines =
    let said = filter_map (read_line version (board_of root)) lines in
    record { root = root; known = shown_by root said; verdict = first_verdict said }

abbrev pub said_refusal : CheckerState → Option Line → Option Why
said_refusal s None = Some BadLine
said_refusal s (Some line) = line_refusal s line

-- the name of what is wrong with a line, which has this number and stands behind what stands
abbrev pub bytes_refusal : Version → CheckerState → ℕ → List ℕ → Option Why
bytes_refusal version s at bytes =
    or_then (unless (nat_le at most_lines) BadLine) (said_refusal s (read_line version (board_of s.root) bytes))

-- what is wrong with the line at a place, the lines before it accepted
abbrev pub refusal_at : Version → Position → List (List ℕ) → ℕ → Option Why
refusal_at version root lines k = bytes_refusal version (state_after version root (take k lines)) (k + first_number) (slice_index_or lines k [])

-- the first place of a list at which there is something, and what it is
abbrev pub first_or : {X : Type 0} → Option X → ℕ → Option (ℕ × X) → Option (ℕ × X)
first_or None k later = later
first_or (Some x) k later = Some (k, x)

abbrev pub first_some : {X : Type 0} → (ℕ → Option X) → List ℕ → Option (ℕ × X)
first_some f [] = None
first_some f (k ∷ ks) = first_or (f k) k (first_some f ks)

-- ---- the answer

-- what is to be said of a text: it has no game, a line is refused, or it is accepted with its verdict and so many
-- lemmas
pub data CheckAnswer : Type 0 where
  NoGame : InputFault → CheckAnswer
  Refused : ℕ → Why → CheckAnswer
  Accepted : Verdict → ℕ → CheckAnswer

-- where every line stands there has to be a verdict
abbrev pub verdict_answer : ℕ → ℕ → Option Verdict → CheckAnswer
verdict_answer next lemmas None = Refused next EndedEarly
verdict_answer next lemmas (Some v) = Accepted v lemmas

abbrev pub lines_answer : Version → Position → List (List ℕ) → Option (ℕ × Why) → CheckAnswer
lines_answer version root lines (Some (k, why)) = Refused (k + first_number) why
lines_answer version root lines None = verdict_answer (length lines + first_number) (length (state_after version root lines).known) (state_after version root lines).verdict

-- ---- line by line

-- what stands after one more line, given by its bytes
abbrev pub with_said : CheckerState → Option Line → CheckerState
with_said s None = s
with_said s (Some line) = with_line s line

abbrev pub with_bytes : Version → CheckerState → List ℕ → CheckerState
with_bytes version s bytes = with_said s (read_line version (board_of s.root) bytes)

abbrev pub line_answer : Option Why → ℕ → CheckAnswer → CheckAnswer
line_answer None at later = later
line_answer (Some why) at later = Refused at why

-- the answer to further lines, the first of which has this number, behind what stands
abbrev pub check_from : Version → CheckerState → ℕ → List (List ℕ) → CheckAnswer
check_from version s at [] = verdict_answer at (length s.known) s.verdict
check_from version s at (line ∷ lines) = line_answer (bytes_refusal version s at line) at (check_from version (with_bytes version s line) (at + 1) lines)

-- what stands before the first line
abbrev pub start : Position → CheckerState
start root = record { root = root; known = []; verdict = None }

-- ---- whole texts

-- the answer to the lines behind a game
abbrev pub answer_of : Version → Position → List (List ℕ) → CheckAnswer
answer_of version root lines = lines_answer version root lines (first_some (refusal_at version root lines) (below (length lines)))

abbrev pub game_answer : Version → Result Position InputFault → List (List ℕ) → CheckAnswer
game_answer version (Err fault) lines = NoGame fault
game_answer version (Ok root) lines = answer_of version root lines

-- the first line names the format
abbrev pub first_line : Version → List ℕ
first_line One = codes "victor 1"
first_line Two = codes "victor 2"

abbrev pub pieces_answer : Version → List (List ℕ) → CheckAnswer
pieces_answer version [] = Refused 1 BadLine
pieces_answer version (first ∷ more) = if bytes_eq first (first_line version) then game_answer version (game_at (game_of more)) (behind_game more) else Refused 1 BadLine

-- the answer to a text that is to be of this version
unfoldable pub check_in : Version → List ℕ → CheckAnswer
check_in version bytes = pieces_answer version (pieces bytes)

-- the version that the first line of a text names; where it names none, the text is refused by either
abbrev pub named_by : List (List ℕ) → Version
named_by [] = One
named_by (first ∷ more) = if bytes_eq first (first_line Two) then Two else One

abbrev pub version_of : List ℕ → Version
version_of bytes = named_by (pieces bytes)

-- the answer to a text
unfoldable pub check_of : List ℕ → CheckAnswer
check_of bytes = check_in (version_of bytes) bytes

-- ---- right texts

-- a line before the verdict: a lemma, or a remark with its bytes
pub data Entry : Type 0 where
  LemmaEntry : Lemma → Entry
  RemarkEntry : List ℕ → Entry

abbrev pub entry_text : Entry → List ℕ
entry_text (LemmaEntry l) = lemma_text l
entry_text (RemarkEntry bytes) = bytes

abbrev pub entry_lines : List Entry → List ℕ
entry_lines entries = flat_map (λ entry. as_line (entry_text entry)) entries

abbrev pub lemmas_among : List Entry → List Lemma
lemmas_among [] = []
lemmas_among (LemmaEntry l ∷ entries) = l ∷ lemmas_among entries
lemmas_among (RemarkEntry bytes ∷ entries) = lemmas_among entries

-- what may stand as a line on a board, in a text of the version
abbrev pub EntryFits : Version → Board → Entry → Type 0
EntryFits version board (LemmaEntry l) = (has_reason version l.reason ≡ true) × Fits board l
EntryFits version board (RemarkEntry bytes) = is_remark bytes ≡ true

-- The head of a text: the line that names the format, and the two lines of the game.
abbrev pub head_of : Version → Board → List ℕ → List ℕ
head_of version board columns = first_line version ++ 10 ∷ game_text board columns true

-- The bytes are the spelling, in this version, of a proof whose lemmas and verdict are right. It names its format and its game; then
-- come lemmas and remarks, and last the verdict, of which the line feed may be missing.
pub record IsRightText (version : Version) (bytes : List ℕ) (v : Verdict) (count : ℕ) : Type 0 where
  pub board : Board
  pub columns : List ℕ
  pub root : Position
  pub entries : List Entry
  pub after : List Shown
  pub ended : Bool
  pub has_board : is_board board ≡ true
  pub has_moves : played (empty_position board) columns ≡ Some root
  pub fit : AllByRecursion (EntryFits version board) entries
  pub right : AreRight root [] (lemmas_among entries) after
  pub verdict_fits : VerdictFits v
  pub verdict_right : IsVerdict root after v
  pub counted : count ≡ length (lemmas_among entries)
  pub few : length entries + first_number ≤ most_lines
  pub spelled : bytes ≡ head_of version board columns ++ (entry_lines entries ++ (verdict_text v ++ last_feed ended))
