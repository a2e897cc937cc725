-- Every right lemma behind a game has a spelling, while its number has one; and no spelling is long.
use Rattle.std.proofs.Common.{◌≡◌, ℕ, ◌+◌, ◌*◌, ◌<◌, ◌≤◌, true, ◌&&◌, ◌==◌, nat_le, List, [], ◌∷◌, ◌++◌, map, filter, length, Option, Some, None, refl, sym, ap}
use Rattle.std.proofs.Common.{◌∙◌, subst, inl, inr, arith, lit<, flat_map, zero, suc}
use Rattle.std.specs.List.{AllByRecursion, list_all}
use Rattle.std.specs.Fmt.{decimal}
use Rattle.std.proofs.lemmas.List.{length-append, length-map}
use Rattle.std.proofs.lemmas.List.FromFn.{length-range_with_len}
use Rattle.std.proofs.lemmas.Fmt.{length-decimal-le}
use Rattle.std.proofs.lemmas.Bool.{cases_Bool, and_parts, leb-true}
use Rattle.game_rules.specs.Board.{Board, is_board, is_cols, is_rows, below}
use Rattle.game_rules.specs.Position.{Position, board_of, has_room, after_move, end_of, empty_count, is_legal, played, open_columns, height}
use Rattle.game_rules.specs.Grammar.{letter_of, move_list}
use Rattle.game_rules.specs.Mirror.{mirror}
use Rattle.game_rules.proofs.Lists.{Among, any_gives, Among-filter, Among-filter_gives, Among-below_gives, chosen}
use Rattle.game_rules.proofs.Moves.{empty_count_moved, cols_moved, room_column}
use Rattle.game_rules.proofs.Values.{goes_on_room}
use Rattle.game_rules.proofs.Ends.{legal_parts}
use Rattle.game_rules.proofs.BoardLine.{empty_count_within}
use Rattle.game_rules.proofs.Grammar.{board_along}
use Rattle.proof_text.specs.Lemma.{Cite, Reason, ByEnd, ByOne, ByAll, ByPlan, ByMirror, Lemma, Line, ALemma, ARemark, AVerdict}
use Rattle.proof_text.specs.Right.{Shown, IsCited, HasReason, IsRight, AreRight, IsVerdict}
use Rattle.proof_text.specs.Spelling.{claim_word, cite_word, reason_words, lemma_text, verdict_text, greatest_number, longest_path, most_cites, IsNumber}
use Rattle.proof_text.specs.Spelling.{CiteFits, ReasonFits, Fits, VerdictFits, longest_line, is_printable, IsAnyLine, members_in, IsShort}
use Rattle.proof_text.specs.Reading.{read_line}
use Rattle.proof_text.proofs.Append.{Shows_number}
use Rattle.proof_text.proofs.Spelled.{line_read}
use Rattle.proof_text.specs.declared.Claim.{Claim}
use Rattle.proof_text.specs.declared.Claim.TheVariants.{WhiteWins, WhiteFails, BlackWins, BlackFails}
use Rattle.proof_text.specs.declared.Verdict.{Verdict}
use Rattle.proof_text.specs.declared.Version.{Version}
use Rattle.proof_text.specs.declared.Verdict.TheVariants.{Win, Loss, Draw, Unknown}
use Rattle.plan_text.specs.Words.{spaced}
use Rattle.plan_text.specs.Items.{instance_text, is_named}
use Rattle.plan_text.specs.PlanLine.{PlanFits}
use Rattle.game_rules.proofs.Squares.{playable_is}
use Rattle.plan_rules.specs.Rules.{RuleInstance}
use Rattle.plan_rules.specs.Plan.{IsMember, is_plan}
use Rattle.plan_rules.proofs.Strategy.{room_playable}
use Rattle.plan_rules.proofs.Plans.{plan_gives}
use Rattle.std.proofs.lemmas.List.Concat.{flat_map-cons}
use Rattle.plan_text.proofs.PlanLines.{members_length, fitting_named}
use Rattle.plan_rules.specs.declared.TheConstants.{MOST_MEMBERS}

-- ---- paths

-- each move of a path fills a square, and goes into a column of the board
path_fills : (path : List ℕ) (p q : Position) → played p path ≡ Some q → empty_count q + length path ≡ empty_count p
path_fills [] p q h = let same : p ≡ q = cc in omega (arith, ap empty_count same)
path_fills (column ∷ path) p q h = elim (chosen (is_legal p column) (played (after_move p column) path) None (Some q) h) [
  | inr illegal ↦ absurd (cc illegal.1)
  | inl legal ↦ omega (arith, path_fills path (after_move p column) q legal.1, empty_count_moved p column (legal_parts p column legal.0).1)
]

path_within : (path : List ℕ) (p q : Position) (cols : ℕ) → length p.columns ≡ cols → played p path ≡ Some q → AllByRecursion (λ column. column < cols) path
path_within [] p q cols same h = tt
path_within (column ∷ path) p q cols same h = elim (chosen (is_legal p column) (played (after_move p column) path) None (Some q) h) [
  | inr illegal ↦ absurd (cc illegal.1)
  | inl legal ↦ (
    subst (λ n. column < n) same (room_column p column (legal_parts p column legal.0).1),
    path_within path (after_move p column) q cols
        (cols_moved p column ∙ same) legal.1,
  )
]

-- ---- cites

-- at most as many columns are open as there are, each of them on the board
open_within : (columns : List ℕ) (p : Position) → length (filter (has_room p) columns) ≤ length columns
open_within [] p = omega arith
open_within (column ∷ columns) p = elim (cases_Bool (has_room p column)) [
  | inl room ↦ rw room (let rest : length (filter (has_room p) columns) ≤ length columns = open_within columns p in omega arith)
  | inr full ↦ rw full (let rest : length (filter (has_room p) columns) ≤ length columns = open_within columns p in omega arith)
]

all_among : {X : Type 0} (P : X → Type 0) (xs : List X) → ((x : X) → Among x xs → P x) → AllByRecursion P xs
all_among P [] each = tt
all_among P (x ∷ xs) each = (each x (inl refl), all_among P xs (λ y among. each y (inr among)))

open_columns_within : (p : Position) → AllByRecursion (λ column. column < length p.columns) (open_columns p)
open_columns_within p = all_among (λ column. column < length p.columns) (open_columns p)
    (λ column among. Among-below_gives (length p.columns) column (Among-filter_gives (has_room p) (below (length p.columns)) column among).0)

some_open : (p : Position) → end_of p ≡ None → 1 ≤ length (open_columns p)
some_open p goes =
    let found = any_gives (has_room p) (below (length p.columns)) (goes_on_room p goes) in
    some found.0 (open_columns p) (Among-filter (has_room p) (below (length p.columns)) found.0 found.1 found.2)
  where
    some : (column : ℕ) (columns : List ℕ) → Among column columns → 1 ≤ length columns
    some column [] among = absurd among
    some column (first ∷ columns) among = omega arith

cites_fit : (known : List Shown) (p : Position) (claim : Claim) (cols : ℕ) → length known ≤ greatest_number → (cites : List Cite)
    → AllByRecursion (λ column. column < cols) (map (λ cite. cite.column) cites) → AllByRecursion (IsCited known p claim) cites
    → AllByRecursion (CiteFits cols) cites
cites_fit known p claim cols few [] within cited = tt
cites_fit known p claim cols few (cite ∷ cites) within cited =
    let number = Shows_number known cite.lemma (after_move p cite.column) claim cited.0 in
    ((within.0, (number.0, omega arith)), cites_fit known p claim cols few cites within.1 cited.1)

-- ---- lemmas and verdicts

-- the boards have at most ten columns
narrow_board : (board : Board) → is_board board ≡ true → board.cols ≤ most_cites
narrow_board board h =
    let both = and_parts (is_cols board.cols) (is_rows board.rows) h in
    let wide = and_parts (nat_le 4 board.cols) (nat_le board.cols 10) both.0 in
    leb-true board.cols 10 wide.1

-- the members of a plan have texts, and there is one at least, since some square is empty
pub plan_fits : (p : Position) (ws : List RuleInstance) → is_board (board_of p) ≡ true → length ws ≤ MOST_MEMBERS → is_plan p ws ≡ true
    → PlanFits (board_of p) ws
plan_fits p ws board short h =
    let plan = plan_gives p ws h in
    let found = any_gives (has_room p) (below (length p.columns)) (goes_on_room p plan.going) in
    let owner = plan.covered (found.0, height p found.0 + 1) (((playable_is p (found.0, height p found.0 + 1)).0 (room_playable p found.0 found.2)).0) in
    (some ws owner.place owner.member owner.is_member, short, named ws (λ i w member. fitting_named p w board (plan.fitting i w member)))
  where
    some : (ws : List RuleInstance) (i : ℕ) (w : RuleInstance) → IsMember ws i w → 1 ≤ length ws
    some [] i w member = cc
    some (w ∷ ws) i v member = omega arith

    named : (ws : List RuleInstance) → ((i : ℕ) (w : RuleInstance) → IsMember ws i w → is_named (board_of p) w ≡ true)
        → AllByRecursion (λ w. is_named (board_of p) w ≡ true) ws
    named [] each = tt
    named (w ∷ ws) each = (each zero w refl, named ws (λ i v member. each (suc i) v member))

reason_fits : (known : List Shown) (p : Position) (claim : Claim) (reason : Reason) → is_board (board_of p) ≡ true → length known ≤ greatest_number
    → length (members_in reason) ≤ MOST_MEMBERS
    → HasReason known p claim reason → ReasonFits (board_of p) reason
reason_fits known p claim ByEnd board few short h = tt
reason_fits known p claim (ByPlan ws) board few short h = plan_fits p ws board short h.plan
reason_fits known p claim (ByMirror n) board few short h = let number = Shows_number known n (mirror p) claim h in (number.0, omega arith)
reason_fits known p claim (ByOne cite) board few short h =
    let number = Shows_number known cite.lemma (after_move p cite.column) claim h.cited in
    (room_column p cite.column h.playable, (number.0, omega arith))
reason_fits known p claim (ByAll cites) board few short h =
    let narrow : length p.columns ≤ most_cites = narrow_board (board_of p) board in
    let count : length cites ≡ length (open_columns p) = sym (length-map cites (λ (cite : Cite). cite.column)) ∙ ap length h.playable in
    let some : 1 ≤ length (open_columns p) = some_open p h.goes_on in
    let within : length (open_columns p) ≤ length (below (length p.columns)) = open_within (below (length p.columns)) p in
    let cols : length (below (length p.columns)) ≡ length p.columns = length-range_with_len 0 (length p.columns) in (
      omega arith,
      omega arith,
      cites_fit known p claim (length p.columns) few cites
          (subst (AllByRecursion (λ column. column < length p.columns)) (sym h.playable) (open_columns_within p)) h.cited,
    )

-- a right lemma has a spelling while its number has one
pub right_fits : (root : Position) (known : List Shown) (l : Lemma) (p : Position) → is_board (board_of root) ≡ true → length known < greatest_number
    → IsShort l → IsRight root known l p → Fits (board_of root) l
right_fits root known l p board few short right =
    let fills : empty_count p + length l.path ≡ empty_count root = path_fills l.path root p right.along in
    let empty : empty_count root ≤ 100 = empty_count_within root board in
    let same : board_of p ≡ board_of root = board_along l.path root p right.along in
    let next : l.number ≡ length known + 1 = right.next in
    record {
      number = (omega arith, omega arith);
      short = omega arith;
      columns = path_within l.path root p (length root.columns) refl right.along;
      reason = subst (λ board. ReasonFits board l.reason) same
          (reason_fits known p l.claim l.reason (ap is_board same ∙ board) (omega arith) short right.reason);
    }

pub right_all_fit : (root : Position) (known : List Shown) (ls : List Lemma) (after : List Shown) → is_board (board_of root) ≡ true
    → length known + length ls ≤ greatest_number → AllByRecursion IsShort ls → AreRight root known ls after → AllByRecursion (Fits (board_of root)) ls
right_all_fit root known [] after board few short right = tt
right_all_fit root known (l ∷ ls) after board few short (p, one, rest) =
    let longer : length (known ++ (p, l.claim) ∷ []) ≡ length known + 1 = length-append known ((p, l.claim) ∷ []) in
    (right_fits root known l p board (omega arith) short.0 one, right_all_fit root (known ++ (p, l.claim) ∷ []) ls after board (omega arith) short.1 rest)

pub right_verdict_fits : (root : Position) (known : List Shown) (v : Verdict) → length known ≤ greatest_number → IsVerdict root known v → VerdictFits v
right_verdict_fits root known (Win n) few h = let number = Shows_number known n root _ h in (number.0, omega arith)
right_verdict_fits root known (Loss n) few h = let number = Shows_number known n root _ h in (number.0, omega arith)
right_verdict_fits root known (Draw n m) few h =
    let first = Shows_number known n root _ h.0 in
    let second = Shows_number known m root _ h.1 in
    ((first.0, omega arith), (second.0, omega arith))
right_verdict_fits root known Unknown few h = tt

-- ---- how long a line is

-- the bytes of further words, each with a space before it
abbrev further : List (List ℕ) → ℕ
further [] = 0
further (word ∷ words) = 1 + (length word + further words)

further_is : (words : List (List ℕ)) → length (flat_map (λ word. 32 ∷ word) words) ≡ further words
further_is [] = refl
further_is (word ∷ words) = ap length (flat_map-cons (λ word. 32 ∷ word) word words)
    ∙ omega (arith, length-append (32 ∷ word) (flat_map (λ word. 32 ∷ word) words), further_is words)

length_spaced : (word : List ℕ) (words : List (List ℕ)) → length (spaced (word ∷ words)) ≡ length word + further words
length_spaced word [] = omega arith
length_spaced word (next ∷ words) = omega (arith, length-append word (32 ∷ spaced (next ∷ words)), length_spaced next words)

number_length : (n : ℕ) → IsNumber n → length (decimal n) ≤ 8
number_length n h = length-decimal-le 8 n (lit< tt) (omega (arith, h.1)) (omega (arith, h.1))

moves_length : (path : List ℕ) → length path ≤ longest_path → length (move_list path) ≤ longest_path
moves_length [] h = omega arith
moves_length (column ∷ columns) h = omega (arith, length-map columns letter_of)

claim_length : (claim : Claim) → length (claim_word claim) ≡ 2
claim_length WhiteWins = refl
claim_length WhiteFails = refl
claim_length BlackWins = refl
claim_length BlackFails = refl

cites_length : (cols : ℕ) (cites : List Cite) → AllByRecursion (CiteFits cols) cites → further (map cite_word cites) ≤ length cites * 11
cites_length cols [] h = omega arith
cites_length cols (cite ∷ cites) h =
    let number : length (decimal cite.lemma) ≤ 8 = number_length cite.lemma h.0.1 in
    let rest : further (map cite_word cites) ≤ length cites * 11 = cites_length cols cites h.1 in
    omega arith

reason_length : (board : Board) (reason : Reason) → ReasonFits board reason → further (reason_words reason) ≤ 5105
reason_length board ByEnd h = omega arith
reason_length board (ByOne cite) h = let number : length (decimal cite.lemma) ≤ 8 = number_length cite.lemma h.1 in omega arith
reason_length board (ByAll cites) h = let rest : further (map cite_word cites) ≤ length cites * 11 = cites_length board.cols cites h.2 in omega (arith, h.1)
reason_length board (ByPlan ws) h = omega (arith, members_length board ws h, further_is (map instance_text ws), h.1)
reason_length board (ByMirror n) h = let number : length (decimal n) ≤ 8 = number_length n h in omega arith

-- a lemma's text has at most 5,217 bytes, and a verdict's at most 28
pub lemma_length : (board : Board) (l : Lemma) → Fits board l → length (lemma_text l) ≤ 5217
lemma_length board l h =
    let all : length (lemma_text l) ≡ length (decimal l.number) + further (move_list l.path ∷ claim_word l.claim ∷ reason_words l.reason) =
    length_spaced (decimal l.number) (move_list l.path ∷ claim_word l.claim ∷ reason_words l.reason) in
    let number : length (decimal l.number) ≤ 8 = number_length l.number h.number in
    let path : length (move_list l.path) ≤ longest_path = moves_length l.path h.short in
    let claim : length (claim_word l.claim) ≡ 2 = claim_length l.claim in
    let reason : further (reason_words l.reason) ≤ 5105 = reason_length board l.reason h.reason in
    omega arith

pub verdict_length : (v : Verdict) → VerdictFits v → length (verdict_text v) ≤ 28
verdict_length (Win n) h = let number : length (decimal n) ≤ 8 = number_length n h in omega arith
verdict_length (Loss n) h = let number : length (decimal n) ≤ 8 = number_length n h in omega arith
verdict_length (Draw n m) h =
    let first : length (decimal n) ≤ 8 = number_length n h.0 in
    let second : length (decimal m) ≤ 8 = number_length m h.1 in
    omega (arith, length-append (decimal n) (32 ∷ decimal m))
verdict_length Unknown h = omega arith

-- no line has more bytes than a line may have
pub line_short : (board : Board) (bytes : List ℕ) (line : Line) → IsAnyLine board bytes line → length bytes ≤ longest_line
line_short board bytes (ALemma l) h = omega (arith, ap length h.1, lemma_length board l h.0)
line_short board bytes (AVerdict v) h = omega (arith, ap length h.1, verdict_length v h.0)
line_short board [] ARemark h = omega arith
line_short board (byte ∷ bytes) ARemark h =
    leb-true (length (byte ∷ bytes)) longest_line (and_parts (byte == 35 && list_all is_printable bytes) (nat_le (length (byte ∷ bytes)) longest_line) h).1

-- so what is longer isn't read
pub long_unread : (version : Version) (board : Board) (bytes : List ℕ) → longest_line < length bytes → read_line version board bytes ≡ None
long_unread version board bytes long = of (read_line version board bytes) refl
  where
    of : (found : Option Line) → read_line version board bytes ≡ found → found ≡ None
    of None e = refl
    of (Some line) e = absurd (omega (arith, line_short board bytes line (line_read version board bytes line e).1))
