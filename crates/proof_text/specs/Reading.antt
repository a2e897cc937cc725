-- How a line of a proof is read: as words, which a space parts, each of which has to be the spelling of its part. The
-- letters are those of the board's columns.
use Rattle.std.specs.Prelude.{ℕ, ◌&&◌, ◌==◌, nat_le, if◌then◌else◌, List, [], ◌∷◌, map, length, Option, Some, None, option_map, codes, bytes_eq}
use Rattle.std.specs.List.{list_all}
use Rattle.game_rules.specs.Number.{number_between}
use Rattle.game_rules.specs.Board.{Board}
pub use Rattle.plan_text.specs.Words.{◌>>=◌, words_of}
use Rattle.game_rules.specs.Letters.{is_letter, column_of, column_named}
use Rattle.plan_text.specs.PlanLine.{members_of}
use Rattle.proof_text.specs.Lemma.{Cite, Reason, ByEnd, ByOne, ByAll, ByPlan, ByMirror, Lemma, Line, ALemma, ARemark, AVerdict, allows}
use Rattle.proof_text.specs.Spelling.{greatest_number, longest_path, most_cites, is_remark}
use Rattle.proof_text.specs.declared.Claim.{Claim}
use Rattle.proof_text.specs.declared.Claim.TheVariants.{WhiteWins, WhiteFails, BlackWins, BlackFails}
use Rattle.proof_text.specs.declared.Verdict.{Verdict}
use Rattle.proof_text.specs.declared.Version.{Version}
use Rattle.proof_text.specs.declared.Verdict.TheVariants.{Win, Loss, Draw, Unknown}

-- the number that a word spells
abbrev pub number_of : List ℕ → Option ℕ
number_of word = number_between 1 greatest_number word

-- letters one after the other, or `-` for none
abbrev pub path_of : ℕ → List ℕ → Option (List ℕ)
path_of cols word = if bytes_eq word (codes "-") then Some [] else (if nat_le 1 (length word) && nat_le (length word) longest_path && list_all (is_letter cols) word then Some (map column_of word) else None)

abbrev pub claim_of : List ℕ → Option Claim
claim_of word = if bytes_eq word (codes "W+") then Some WhiteWins else (if bytes_eq word (codes "W-") then Some WhiteFails else (if bytes_eq word (codes "B+") then Some BlackWins else (if bytes_eq word (codes "B-") then Some BlackFails else None)))

-- a word of one letter
abbrev pub letter_word : ℕ → List ℕ → Option ℕ
letter_word cols (byte ∷ []) = column_named cols byte
letter_word cols word = None

-- a letter, a colon and a number
abbrev pub cite_of : ℕ → List ℕ → Option Cite
cite_of cols (letter ∷ colon ∷ digits) = if is_letter cols letter && colon == 58 then option_map (λ n. record { column = column_of letter; lemma = n }) (number_of digits) else None
cite_of cols word = None

abbrev pub cites_of : ℕ → List (List ℕ) → Option (List Cite)
cites_of cols [] = Some []
cites_of cols (word ∷ words) = do
  cite ← cite_of cols word
  cites ← cites_of cols words
  Some (cite ∷ cites)

abbrev pub one_of : ℕ → List (List ℕ) → Option Reason
one_of cols (letter ∷ number ∷ []) = do
  column ← letter_word cols letter
  n ← number_of number
  Some (ByOne (record { column = column; lemma = n }))
one_of cols words = None

abbrev pub all_of : ℕ → List (List ℕ) → Option Reason
all_of cols words = if nat_le 1 (length words) && nat_le (length words) most_cites then option_map ByAll (cites_of cols words) else None

-- nothing may follow
abbrev pub only : {X : Type 0} → X → List (List ℕ) → Option X
only x [] = Some x
only x (word ∷ words) = None

abbrev pub plan_of : Board → List (List ℕ) → Option Reason
plan_of board words = option_map ByPlan (members_of board words)

abbrev pub mirror_of : List (List ℕ) → Option Reason
mirror_of (number ∷ []) = option_map ByMirror (number_of number)
mirror_of words = None

abbrev pub reason_of : Board → List (List ℕ) → Option Reason
reason_of board [] = None
reason_of board (word ∷ words) =
    if bytes_eq word (codes "end") then only ByEnd words
    else (if bytes_eq word (codes "one") then one_of board.cols words
    else (if bytes_eq word (codes "all") then all_of board.cols words
    else (if bytes_eq word (codes "plan") then plan_of board words
    else (if bytes_eq word (codes "mirror") then mirror_of words else None))))

abbrev pub lemma_of : Board → List (List ℕ) → Option Lemma
lemma_of board (number ∷ path ∷ claim ∷ reason) = do
  n ← number_of number
  moves ← path_of board.cols path
  said ← claim_of claim
  why ← reason_of board reason
  Some (record { number = n; path = moves; claim = said; reason = why })
lemma_of board words = None

-- a verdict with one number, and with two
abbrev pub with_one : (ℕ → Verdict) → List (List ℕ) → Option Verdict
with_one verdict (number ∷ []) = option_map verdict (number_of number)
with_one verdict words = None

abbrev pub with_two : (ℕ → ℕ → Verdict) → List (List ℕ) → Option Verdict
with_two verdict (first ∷ second ∷ []) = do
  n ← number_of first
  m ← number_of second
  Some (verdict n m)
with_two verdict words = None

-- the words behind `value`
abbrev pub verdict_of : List (List ℕ) → Option Verdict
verdict_of [] = None
verdict_of (word ∷ words) = if bytes_eq word (codes "win") then with_one Win words else (if bytes_eq word (codes "loss") then with_one Loss words else (if bytes_eq word (codes "draw") then with_two Draw words else (if bytes_eq word (codes "unknown") then only Unknown words else None)))

abbrev pub line_of_words : Board → List (List ℕ) → Option Line
line_of_words board [] = None
line_of_words board (word ∷ words) = if bytes_eq word (codes "value") then option_map AVerdict (verdict_of words) else option_map ALemma (lemma_of board (word ∷ words))

-- what a line of a proof behind the game says on a board, in some version
abbrev pub read_any : Board → List ℕ → Option Line
read_any board bytes = if is_remark bytes then Some ARemark else line_of_words board (words_of bytes)

-- what the version doesn't have is no line of it
abbrev pub in_version : Version → Option Line → Option Line
in_version version None = None
in_version version (Some line) = if allows version line then Some line else None

-- what a line says in this version
abbrev pub read_line : Version → Board → List ℕ → Option Line
read_line version board bytes = in_version version (read_any board bytes)
