-- The answer to whole texts, computed where it is known from outside.
use Rattle.std.proofs.Common.{Bool, true, false, replicate, is_some, Some, None, Option, Result, Ok, filter_map, ◌≡◌, ℕ, List, [], ◌∷◌, ◌++◌, take, drop, ◌+◌}
use Rattle.std.proofs.Common.{codes, refl}
use Rattle.game_rules.specs.declared.InputKind.TheVariants.{BadHeader}
use Rattle.std.specs.List.{flat_map}
use Rattle.std.specs.Fmt.{digits}
use Rattle.game_rules.specs.Text.{game_at, read_game, board_at}
use Rattle.game_rules.specs.Position.{Position}
use Rattle.game_rules.specs.declared.InputFault.{InputFault}
use Rattle.proof_text.specs.Checked.{lemmas_in, first_verdict}
use Rattle.proof_text.specs.Lemma.{Line, ALemma, ByMirror}
use Rattle.proof_text.specs.Reading.{read_line}
use Rattle.proof_text.specs.declared.Claim.TheVariants.{WhiteFails}
use Rattle.proof_text.specs.Spelling.{as_line}
use Rattle.proof_text.specs.Upgrade.{upgraded_text}
use Rattle.proof_text.specs.Texts.{NoGame, Accepted, Refused, check_in, check_of}
use Rattle.proof_text.specs.declared.Verdict.{Verdict}
use Rattle.proof_text.specs.declared.Verdict.TheVariants.{Draw, Loss}
use Rattle.proof_text.specs.declared.Version.TheVariants.{One, Two}
use Rattle.proof_text.specs.declared.Why.TheVariants.{BadLine, BadPath, NoSuchLemma, WrongPosition, WrongClaim, MissingMove, BadPlan, BadVerdict, EndedEarly}
use Rattle.game_rules.specs.Board.{Board}
use Rattle.game_rules.specs.declared.Length.TheVariants.{Four}
use Rattle.plan_rules.specs.Refusal.{not_white_to_move, ended, uncovered}
use Rattle.game_rules.specs.Groups.{groups_of}
use Rattle.game_rules.specs.Squares.{squares_of_board}

-- a proof on the 4 by 4 board
abbrev four : List ℕ → List (List ℕ) → List ℕ
four moves lines = flat_map as_line (codes "victor 1" ∷ codes "board 4 4" ∷ (codes "moves " ++ moves) ∷ lines)

full_board_draw : check_of (four (codes "cdccddcdaaaabbbb") (codes "1 - W- end" ∷ codes "2 - B- end" ∷ codes "value draw 1 2" ∷ [])) ≡ Accepted (Draw 1 2) 2
unfolding check_of check_in game_at read_game board_at digits
full_board_draw = refl

four_at_root : check_of (four (codes "abababa") (codes "1 - W+ end" ∷ codes "value loss 1" ∷ [])) ≡ Accepted (Loss 1) 1
unfolding check_of check_in game_at read_game board_at digits
four_at_root = refl

-- two squares are left
abbrev two_left : List (List ℕ)
two_left = codes "1 bb W- end" ∷ codes "2 b W- one b 1" ∷ codes "3 - W- all b:2" ∷ codes "4 bb B- end" ∷ codes "5 b B- all b:4" ∷ codes "6 - B- one b 5"
    ∷ codes "value draw 3 6" ∷ []

two_squares_left : check_of (four (codes "cdccddcdaaaabb") two_left) ≡ Accepted (Draw 3 6) 6
unfolding check_of check_in game_at read_game board_at digits
two_squares_left = refl

-- two paths lead to one position
abbrev shared : List (List ℕ)
shared =
    codes "1 aabb W- end" ∷ codes "2 aab W- one b 1" ∷ codes "3 aa W- all b:2" ∷ codes "4 a W- one a 3" ∷ codes "5 bba W- one a 1" ∷ codes "6 bb W- all a:5"
    ∷ codes "7 b W- one b 6" ∷ codes "8 - W- all a:4 b:7"
    ∷ codes "9 aabb B- end" ∷ codes "10 aab B- all b:9" ∷ codes "11 aa B- one b 10" ∷ codes "12 abab B- end" ∷ codes "13 aba B- all b:12"
    ∷ codes "14 ab B- one a 13" ∷ codes "15 a B- all a:11 b:14" ∷ codes "16 - B- one a 15" ∷ codes "value draw 8 16" ∷ []

shared_position : check_of (four (codes "cdccddcdaabb") shared) ≡ Accepted (Draw 8 16) 16
unfolding check_of check_in game_at read_game board_at digits
shared_position = refl

-- ---- what is refused: one line of a right text is replaced

abbrev instead : ℕ → List ℕ → List (List ℕ) → List (List ℕ)
instead at line lines = take at lines ++ (line ∷ drop (at + 1) lines)

cut_off : check_of (take 103 (four (codes "cdccddcdaaaabb") two_left)) ≡ Refused 8 BadLine
unfolding check_of check_in game_at read_game board_at digits
cut_off = refl

no_such_lemma : check_of (four (codes "cdccddcdaaaabb") (instead 1 (codes "2 b W- one b 2") two_left)) ≡ Refused 5 NoSuchLemma
unfolding check_of check_in game_at read_game board_at digits
no_such_lemma = refl

wrong_claim : check_of (four (codes "cdccddcdaaaabb") (instead 0 (codes "1 bb W+ end") two_left)) ≡ Refused 4 WrongClaim
unfolding check_of check_in game_at read_game board_at digits
wrong_claim = refl

bad_verdict : check_of (four (codes "cdccddcdaaaabb") (instead 6 (codes "value draw 3 4") two_left)) ≡ Refused 10 BadVerdict
unfolding check_of check_in game_at read_game board_at digits
bad_verdict = refl

no_verdict : check_of (four (codes "cdccddcdaaaabb") (take 6 two_left)) ≡ Refused 10 EndedEarly
unfolding check_of check_in game_at read_game board_at digits
no_verdict = refl

missing_move : check_of (four (codes "cdccddcdaabb") (instead 7 (codes "8 - W- all a:4") shared)) ≡ Refused 11 MissingMove
unfolding check_of check_in game_at read_game board_at digits
missing_move = refl

wrong_position : check_of (four (codes "cdccddcdaabb") (instead 4 (codes "5 bba W- one a 2") shared)) ≡ Refused 8 WrongPosition
unfolding check_of check_in game_at read_game board_at digits
wrong_position = refl

bad_path : check_of (four (codes "cdccddcdaabb") (instead 0 (codes "1 aaaa W- end") shared)) ≡ Refused 4 BadPath
unfolding check_of check_in game_at read_game board_at digits
bad_path = refl

-- without a first line, and without a game
nothing : check_of [] ≡ Refused 1 BadLine
unfolding check_of check_in game_at read_game board_at digits
nothing = refl

no_game : check_of (codes "victor 1") ≡ NoGame (record { kind = BadHeader; at = 0 })
unfolding check_of check_in game_at read_game board_at digits
no_game = refl

no_moves : check_of (codes "victor 1" ++ (10 ∷ (codes "board 4 4" ++ 10 ∷ []))) ≡ NoGame (record { kind = BadHeader; at = 10 })
unfolding check_of check_in game_at read_game board_at digits
no_moves = refl

-- a remark is a line, and nothing may follow the verdict
remarks : check_of (four (codes "abababa") (codes "# a remark" ∷ codes "1 - W+ end" ∷ codes "#" ∷ codes "value loss 1" ∷ [])) ≡ Accepted (Loss 1) 1
unfolding check_of check_in game_at read_game board_at digits
remarks = refl

behind_verdict : check_of (four (codes "abababa") (codes "1 - W+ end" ∷ codes "value loss 1" ∷ codes "# a remark" ∷ [])) ≡ Refused 6 BadLine
unfolding check_of check_in game_at read_game board_at digits
behind_verdict = refl

empty_line : check_of (four (codes "abababa") (codes "1 - W+ end" ∷ [] ∷ codes "value loss 1" ∷ [])) ≡ Refused 5 BadLine
unfolding check_of check_in game_at read_game board_at digits
empty_line = refl

leading_zero : check_of (four (codes "abababa") (codes "01 - W+ end" ∷ codes "value loss 1" ∷ [])) ≡ Refused 4 BadLine
unfolding check_of check_in game_at read_game board_at digits
leading_zero = refl

-- a plan closes a position where Black keeps White from a line, and only for the claim that White doesn't win
abbrev plan_left : List (List ℕ)
plan_left = codes "1 - W- plan CE:b3" ∷ codes "2 bb B- end" ∷ codes "3 b B- all b:2" ∷ codes "4 - B- one b 3" ∷ codes "value draw 1 4" ∷ []

plan_at_root : check_of (four (codes "cdccddcdaaaabb") plan_left) ≡ Accepted (Draw 1 4) 4
unfolding check_of check_in game_at read_game board_at digits groups_of squares_of_board
plan_at_root = refl

plan_too_small : check_of (four (codes "-") (codes "1 - W- plan CE:a1" ∷ [])) ≡ Refused 4 (BadPlan (uncovered (0, 3)))
unfolding check_of check_in game_at read_game board_at digits groups_of squares_of_board
plan_too_small = refl

plan_for_another_claim : check_of (four (codes "cdccddcdaaaabb") (codes "1 - B- plan CE:b3" ∷ [])) ≡ Refused 4 WrongClaim
unfolding check_of check_in game_at read_game board_at digits
plan_for_another_claim = refl

-- the list is no plan where Black is to move, or where the game has ended
plan_for_black_to_move : check_of (four (codes "cdccddcdaaaab") (codes "1 - W- plan CE:b3" ∷ [])) ≡ Refused 4 (BadPlan not_white_to_move)
unfolding check_of check_in game_at read_game board_at digits
plan_for_black_to_move = refl

plan_behind_the_end : check_of (four (codes "cdccddcdaaaabb") (codes "1 bb W- plan CE:b3" ∷ [])) ≡ Refused 4 (BadPlan ended)
unfolding check_of check_in game_at read_game board_at digits
plan_behind_the_end = refl

-- ---- the second version

-- a proof of the second version on the 4 by 4 board
abbrev four_two : List ℕ → List (List ℕ) → List ℕ
four_two moves lines = flat_map as_line (codes "victor 2" ∷ codes "board 4 4" ∷ (codes "moves " ++ moves) ∷ lines)

-- the board is its own image, so the columns c and d are seen from the other side
abbrev images : List (List ℕ)
images =
    codes "1 bcad W- end" ∷ codes "2 bca W- one d 1" ∷ codes "3 bcda W- end" ∷ codes "4 bcd W- one a 3" ∷ codes "5 bc W- all a:2 d:4" ∷
    codes "6 b W- one c 5" ∷ codes "7 c W- mirror 6" ∷ codes "8 abc W- mirror 4" ∷ codes "9 abdc W- end" ∷ codes "10 abd W- one c 9" ∷
    codes "11 ab W- all c:8 d:10" ∷ codes "12 a W- one b 11" ∷ codes "13 d W- mirror 12" ∷ codes "14 - W- all a:12 b:6 c:7 d:13" ∷
    codes "15 bcad B- end" ∷ codes "16 bca B- all d:15" ∷ codes "17 bc B- one a 16" ∷ codes "18 bacd B- end" ∷ codes "19 bac B- all d:18" ∷
    codes "20 ba B- one c 19" ∷ codes "21 bdc B- mirror 19" ∷ codes "22 bd B- one c 21" ∷ codes "23 b B- all a:20 c:17 d:22" ∷
    codes "24 - B- one b 23" ∷ codes "value draw 14 24" ∷ []

mirror_proof : check_of (four_two (codes "abdcbacdabdc") images) ≡ Accepted (Draw 14 24) 24
unfolding check_of check_in game_at read_game board_at digits
mirror_proof = refl

image_of_another : check_of (four_two (codes "abdcbacdabdc") (instead 6 (codes "7 c W- mirror 5") images)) ≡ Refused 10 WrongPosition
unfolding check_of check_in game_at read_game board_at digits
image_of_another = refl

image_of_itself : check_of (four_two (codes "abdcbacdabdc") (instead 6 (codes "7 c W- mirror 7") images)) ≡ Refused 10 NoSuchLemma
unfolding check_of check_in game_at read_game board_at digits
image_of_itself = refl

image_of_another_claim : check_of (four_two (codes "abdcbacdabdc") (instead 6 (codes "7 c B- mirror 6") images)) ≡ Refused 10 WrongClaim
unfolding check_of check_in game_at read_game board_at digits
image_of_another_claim = refl

-- the first version has no images, and what has to be of it is refused at its first line
image_in_the_first : check_of (four (codes "abdcbacdabdc") images) ≡ Refused 10 BadLine
unfolding check_of check_in game_at read_game board_at digits
image_in_the_first = refl

second_for_first : check_in One (four_two (codes "abdcbacdabdc") images) ≡ Refused 1 BadLine
unfolding check_in
second_for_first = refl

no_version : check_of (flat_map as_line (codes "victor 3" ∷ codes "board 4 4" ∷ codes "moves -" ∷ codes "value unknown" ∷ [])) ≡ Refused 1 BadLine
unfolding check_of check_in
no_version = refl

first_in_second : check_of (four_two (codes "abababa") (codes "1 - W+ end" ∷ codes "value loss 1" ∷ [])) ≡ Accepted (Loss 1) 1
unfolding check_of check_in game_at read_game board_at digits
first_in_second = refl

-- ---- which lines are read, on a board of four columns and four rows

abbrev four_by_four : Board
four_by_four = record { cols = 4; rows = 4; len = Four }

abbrev is_read : List ℕ → Bool
is_read bytes = is_some (read_line One four_by_four bytes)

greatest : (is_read (codes "10000000 - W+ end") ≡ true) × (is_read (codes "10000001 - W+ end") ≡ false) × (is_read (codes "0 - W+ end") ≡ false)
unfolding digits
greatest = (refl, refl, refl)

spaces : (is_read (codes "1  - W+ end") ≡ false) × (is_read (codes "1 - W+ end ") ≡ false) × (is_read (codes " 1 - W+ end") ≡ false)
unfolding digits
spaces = (refl, refl, refl)

letters : (is_read (codes "1 abcd W+ end") ≡ true) × (is_read (codes "1 e W+ end") ≡ false) × (is_read (codes "1 a W+ one e 1") ≡ false)
unfolding digits
letters = (refl, refl, refl)

-- a column twice, or out of order, is a line
cites : (is_read (codes "1 - W- all b:1 a:2 b:3") ≡ true) × (is_read (codes "1 - W- all") ≡ false)
    × (is_read (codes "1 - W- all a:1 a:1 a:1 a:1 a:1 a:1 a:1 a:1 a:1 a:1 a:1") ≡ false)
unfolding digits
cites = (refl, refl, refl)

verdicts : (is_read (codes "value win 1") ≡ true) × (is_read (codes "value win 1 2") ≡ false) × (is_read (codes "value unknown 1") ≡ false)
    × (is_read (codes "value draw 1") ≡ false)
unfolding digits
verdicts = (refl, refl, refl, refl)

-- a carriage return is part of no line, and a long path is none
other_bytes : (is_read (codes "1 - W+ end" ++ 13 ∷ []) ≡ false) × (is_read (codes "# a" ++ 13 ∷ []) ≡ false) × (is_read [] ≡ false)
unfolding digits
other_bytes = (refl, refl, refl)

long_paths : (is_read (codes "1 " ++ (replicate 100 97 ++ codes " W+ end")) ≡ true) × (is_read (codes "1 " ++ (replicate 101 97 ++ codes " W+ end")) ≡ false)
unfolding digits
long_paths = (refl, refl)

-- images are lines of the second version alone
image_lines : (is_read (codes "2 - W- mirror 1") ≡ false) × (read_line Two four_by_four (codes "2 - W- mirror 1")
    ≡ Some (ALemma (record { number = 2; path = []; claim = WhiteFails; reason = ByMirror 1 })))
    × (is_some (read_line Two four_by_four (codes "2 - W- mirror 0")) ≡ false) × (is_some (read_line Two four_by_four (codes "2 - W- mirror")) ≡ false)
    × (is_some (read_line Two four_by_four (codes "2 - W- mirror 1 1")) ≡ false)
unfolding digits
image_lines = (refl, refl, refl, refl, refl)

-- ---- what becomes of a proof of the first version

abbrev saved : List (List ℕ)
saved =
    codes "1 bcad W- end" ∷ codes "2 bca W- one d 1" ∷ codes "3 bcda W- end" ∷ codes "4 bcd W- one a 3" ∷ codes "5 bc W- all a:2 d:4" ∷
    codes "6 b W- one c 5" ∷ codes "7 cbad W- end" ∷ codes "8 cba W- one d 7" ∷ codes "9 cbda W- end" ∷ codes "10 cbd W- one a 9" ∷
    codes "11 cb W- all a:8 d:10" ∷ codes "12 c W- one b 11" ∷ codes "13 abdc W- end" ∷ codes "14 abd W- one c 13" ∷
    codes "15 ab W- all c:8 d:14" ∷ codes "16 a W- one b 15" ∷ codes "17 db W- all a:14 c:10" ∷ codes "18 d W- one b 17" ∷
    codes "19 - W- all a:16 b:6 c:12 d:18" ∷ codes "20 bcad B- end" ∷ codes "21 bca B- all d:20" ∷ codes "22 bc B- one a 21" ∷
    codes "23 bacd B- end" ∷ codes "24 bac B- all d:23" ∷ codes "25 ba B- one c 24" ∷ codes "26 bdc B- all a:23" ∷
    codes "27 bd B- one c 26" ∷ codes "28 b B- all a:25 c:22 d:27" ∷ codes "29 - B- one b 28" ∷ codes "value draw 19 29" ∷ []

abbrev saved_upgraded : List (List ℕ)
saved_upgraded =
    codes "1 bcad W- end" ∷ codes "2 bca W- one d 1" ∷ codes "3 bcda W- end" ∷ codes "4 bcd W- one a 3" ∷ codes "5 bc W- all a:2 d:4" ∷
    codes "6 b W- one c 5" ∷ codes "7 cbad W- mirror 3" ∷ codes "8 cba W- mirror 4" ∷ codes "9 cbda W- mirror 1" ∷
    codes "10 cbd W- mirror 2" ∷ codes "11 cb W- mirror 5" ∷ codes "12 c W- mirror 6" ∷ codes "13 abdc W- end" ∷
    codes "14 abd W- one c 13" ∷ codes "15 ab W- all c:8 d:14" ∷ codes "16 a W- one b 15" ∷ codes "17 db W- all a:14 c:10" ∷
    codes "18 d W- mirror 16" ∷ codes "19 - W- all a:16 b:6 c:12 d:18" ∷ codes "20 bcad B- end" ∷ codes "21 bca B- all d:20" ∷
    codes "22 bc B- one a 21" ∷ codes "23 bacd B- end" ∷ codes "24 bac B- all d:23" ∷ codes "25 ba B- one c 24" ∷
    codes "26 bdc B- mirror 24" ∷ codes "27 bd B- one c 26" ∷ codes "28 b B- all a:25 c:22 d:27" ∷ codes "29 - B- one b 28" ∷
    codes "value draw 19 29" ∷ []

-- the text that is written of a proof: its game is read, and each of its lines, and the last of them is the verdict
abbrev text_with : List Line → Board → List ℕ → Option Verdict → Result Position InputFault → Option (List ℕ)
text_with said board columns (Some v) (Ok root) = Some (upgraded_text root board columns (lemmas_in said) v)
text_with said board columns verdict root = None

abbrev upgrade_of : Board → List ℕ → List ℕ → List (List ℕ) → Option (List ℕ)
upgrade_of board columns game lines =
    let said = filter_map (read_line One board) lines in text_with said board columns (first_verdict said) (game_at game)

upgraded_proof : upgrade_of four_by_four (0 ∷ 1 ∷ 3 ∷ 2 ∷ 1 ∷ 0 ∷ 2 ∷ 3 ∷ 0 ∷ 1 ∷ 3 ∷ 2 ∷ []) (codes "board 4 4" ++ (10 ∷ codes "moves abdcbacdabdc")) saved
    ≡ Some (four_two (codes "abdcbacdabdc") saved_upgraded)
unfolding game_at read_game board_at digits
upgraded_proof = refl

saved_accepted : (check_of (four (codes "abdcbacdabdc") saved) ≡ Accepted (Draw 19 29) 29) × (check_of (four_two (codes "abdcbacdabdc") saved_upgraded)
    ≡ Accepted (Draw 19 29) 29)
unfolding check_of check_in game_at read_game board_at digits
saved_accepted = (refl, refl)
