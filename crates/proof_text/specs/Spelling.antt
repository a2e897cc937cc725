-- The one spelling of each lemma and verdict: words with a space between each two, and numbers in decimal.
use Rattle.std.specs.Prelude.{◌≡◌, ◌≤◌, ◌<◌, ℕ, Bool, true, false, ◌==◌, List, [], ◌∷◌, ◌++◌, map, length, codes, decimal, flat_map, ⊤, ◌&&◌, nat_le}
use Rattle.std.specs.List.{AllByRecursion, list_all}
use Rattle.game_rules.specs.Board.{Board}
use Rattle.game_rules.specs.Grammar.{letter_of, move_list}
use Rattle.plan_rules.specs.Rules.{RuleInstance}
pub use Rattle.plan_text.specs.Words.{spaced}
use Rattle.plan_text.specs.PlanLine.{plan_words, PlanFits}
use Rattle.proof_text.specs.Lemma.{Cite, Reason, ByEnd, ByOne, ByAll, ByPlan, ByMirror, Lemma, Line, ALemma, ARemark, AVerdict, allows}
use Rattle.proof_text.specs.declared.Claim.{Claim}
use Rattle.proof_text.specs.declared.Claim.TheVariants.{WhiteWins, WhiteFails, BlackWins, BlackFails}
use Rattle.proof_text.specs.declared.Verdict.{Verdict}
use Rattle.proof_text.specs.declared.Version.{Version}
use Rattle.proof_text.specs.declared.Verdict.TheVariants.{Win, Loss, Draw, Unknown}
use Rattle.plan_rules.specs.declared.TheConstants.{MOST_MEMBERS}

abbrev pub claim_word : Claim → List ℕ
claim_word WhiteWins = codes "W+"
claim_word WhiteFails = codes "W-"
claim_word BlackWins = codes "B+"
claim_word BlackFails = codes "B-"

-- a column's letter, a colon, and the lemma's number
abbrev pub cite_word : Cite → List ℕ
cite_word cite = letter_of cite.column ∷ (codes ":" ++ decimal cite.lemma)

abbrev pub reason_words : Reason → List (List ℕ)
reason_words ByEnd = codes "end" ∷ []
reason_words (ByOne cite) = codes "one" ∷ (letter_of cite.column ∷ []) ∷ decimal cite.lemma ∷ []
reason_words (ByAll cites) = codes "all" ∷ map cite_word cites
reason_words (ByPlan ws) = plan_words ws
reason_words (ByMirror n) = codes "mirror" ∷ decimal n ∷ []

abbrev pub lemma_words : Lemma → List (List ℕ)
lemma_words l = decimal l.number ∷ move_list l.path ∷ claim_word l.claim ∷ reason_words l.reason

abbrev pub verdict_words : Verdict → List (List ℕ)
verdict_words (Win n) = codes "value" ∷ codes "win" ∷ decimal n ∷ []
verdict_words (Loss n) = codes "value" ∷ codes "loss" ∷ decimal n ∷ []
verdict_words (Draw n m) = codes "value" ∷ codes "draw" ∷ decimal n ∷ decimal m ∷ []
verdict_words Unknown = codes "value" ∷ codes "unknown" ∷ []

-- the text of a lemma and of a verdict
abbrev pub lemma_text : Lemma → List ℕ
lemma_text l = spaced (lemma_words l)

abbrev pub verdict_text : Verdict → List ℕ
verdict_text v = spaced (verdict_words v)

-- a text as a line, with its line feed
abbrev pub as_line : List ℕ → List ℕ
as_line text = text ++ 10 ∷ []

abbrev pub lemma_line : Lemma → List ℕ
lemma_line l = as_line (lemma_text l)

abbrev pub verdict_line : Verdict → List ℕ
verdict_line v = as_line (verdict_text v)

abbrev pub lines_of : List Lemma → List ℕ
lines_of ls = flat_map lemma_line ls

-- no line has more bytes, without its line feed
abbrev pub longest_line : ℕ
longest_line = 8192

-- a remark begins with `#`, has printable bytes alone, and isn't longer than a line may be
abbrev pub is_printable : ℕ → Bool
is_printable byte = nat_le 32 byte && nat_le byte 126

abbrev pub is_remark : List ℕ → Bool
is_remark [] = false
is_remark (byte ∷ bytes) = byte == 35 && list_all is_printable bytes && nat_le (length (byte ∷ bytes)) longest_line

-- ---- what has a spelling

-- the greatest number, and the longest path
abbrev pub greatest_number : ℕ
greatest_number = 10000000

abbrev pub longest_path : ℕ
longest_path = 100

abbrev pub most_cites : ℕ
most_cites = 10

abbrev pub IsNumber : ℕ → Type 0
IsNumber n = (1 ≤ n) × (n ≤ greatest_number)

-- a column of the board, and a number
abbrev pub CiteFits : ℕ → Cite → Type 0
CiteFits cols cite = (cite.column < cols) × IsNumber cite.lemma

abbrev pub ReasonFits : Board → Reason → Type 0
ReasonFits board ByEnd = ⊤
ReasonFits board (ByOne cite) = CiteFits board.cols cite
ReasonFits board (ByAll cites) = (1 ≤ length cites) × (length cites ≤ most_cites) × AllByRecursion (CiteFits board.cols) cites
ReasonFits board (ByPlan ws) = PlanFits board ws
ReasonFits board (ByMirror n) = IsNumber n

pub record Fits (board : Board) (l : Lemma) : Type 0 where
  pub number : IsNumber l.number
  pub short : length l.path ≤ longest_path
  pub columns : AllByRecursion (λ column. column < board.cols) l.path
  pub reason : ReasonFits board l.reason

-- the instances of the plan that a reason names
abbrev pub members_in : Reason → List RuleInstance
members_in (ByPlan ws) = ws
members_in reason = []

-- the lemma's plan has no more instances than a line can have
abbrev pub IsShort : Lemma → Type 0
IsShort l = length (members_in l.reason) ≤ MOST_MEMBERS

abbrev pub VerdictFits : Verdict → Type 0
VerdictFits (Win n) = IsNumber n
VerdictFits (Loss n) = IsNumber n
VerdictFits (Draw n m) = IsNumber n × IsNumber m
VerdictFits Unknown = ⊤

-- The bytes are a line on a board in some version, and say this. That no line is longer than `longest_line` is said of
-- remarks; lemmas and verdicts are shorter by themselves.
abbrev pub IsAnyLine : Board → List ℕ → Line → Type 0
IsAnyLine board bytes (ALemma l) = Fits board l × (bytes ≡ lemma_text l)
IsAnyLine board bytes ARemark = is_remark bytes ≡ true
IsAnyLine board bytes (AVerdict v) = VerdictFits v × (bytes ≡ verdict_text v)

-- and this version may say it
abbrev pub IsLine : Version → Board → List ℕ → Line → Type 0
IsLine version board bytes line = (allows version line ≡ true) × IsAnyLine board bytes line
