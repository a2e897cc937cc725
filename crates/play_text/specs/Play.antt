-- A game that is played by a plan. The input is the text of a game in two lines, the line of a plan, and then a line for each
-- move of White's, which is the letter of its column; the output is a line for each of them, with White's square and the
-- square of Black's answer by the plan. The text is this project's own.
use Rattle.std.specs.Prelude.{ℕ, ◌+◌, nat_le, if◌then◌else◌, List, [], ◌∷◌, ◌++◌, length, Option, Some, None, is_none, is_some, option_map, Result, Ok, Err, codes, flat_map}
use Rattle.game_rules.specs.Board.{Board, Square}
use Rattle.game_rules.specs.Grammar.{letter_of}
use Rattle.game_rules.specs.Letters.{column_named}
use Rattle.game_rules.specs.Position.{Position, board_of, height, has_room, end_of, after_move}
use Rattle.game_rules.specs.Text.{game_at}
use Rattle.game_rules.specs.declared.End.{End}
use Rattle.game_rules.specs.declared.End.TheVariants as ends
use Rattle.game_rules.specs.declared.InputFault.{InputFault}
use Rattle.plan_rules.specs.Rules.{RuleInstance}
use Rattle.plan_rules.specs.Plan.{plan_reply}
use Rattle.plan_rules.specs.Refusal.{PlanFault, plan_refusal}
use Rattle.plan_text.specs.Items.{square_text}
use Rattle.plan_text.specs.PlanLine.{read_plan}
use Rattle.proof_text.specs.Checked.{Why}
use Rattle.proof_text.specs.Spelling.{as_line, longest_line}
use Rattle.proof_text.specs.Texts.{pieces, game_of, behind_game}
use Rattle.play_text.specs.declared.PlayFault.{PlayFault}
use Rattle.play_text.specs.declared.PlayKind.{PlayKind}
use Rattle.play_text.specs.declared.PlayKind.TheVariants.{BadMove, GameOver, ColumnFull}

-- how play ends, by a plan of Black's, by an odd threat of White's or by a whole proof
pub data PlayEnd : Type 0 where
  NoGame : InputFault → PlayEnd  -- the first two lines are the text of no game
  NoPlanLine : PlayEnd  -- there is no third line, or it is no line of a plan
  NoPlan : PlanFault → PlayEnd  -- its instances are no plan at the game's position
  NoThreat : PlayEnd  -- the game's position has no odd threat
  Refused : ℕ → Why → PlayEnd  -- the line with this number is refused as one of a proof
  NoClaim : ℕ → PlayEnd  -- the verdict, in the line with this number, names no lemma that serves the side that plays by it
  NoMove : PlayFault → PlayEnd  -- a later line is no move of the other side's
  AllPlayed : PlayEnd  -- each line is one
  NoReply : PlayEnd  -- that side's move ended the game, or has no answer; by a plan, a threat or a right proof this never comes

-- what is written, a line for each move, and how play ends
pub record Played : Type 0 where
  pub lines : List (List ℕ)
  pub end : PlayEnd

-- nothing is written any more
abbrev pub ended : PlayEnd → Played
ended end = record { lines = []; end = end }

-- some lines stand before what is written
abbrev pub behind : List (List ℕ) → Played → Played
behind lines played = record { lines = lines ++ played.lines; end = played.end }

-- ---- a turn

-- what is said of the end of the game by Black's man; White has no line after it
abbrev pub end_text : Option End → List ℕ
end_text None = []
end_text (Some ends.Black) = codes " won"
end_text (Some ends.Draw) = codes " full"
end_text (Some ends.White) = []

-- White's square, Black's, and what Black's man ended
abbrev pub turn_line : Square → Square → Option End → List ℕ
turn_line white black end = as_line (square_text white ++ (32 ∷ (square_text black ++ end_text end)))

-- the line of a turn from a position, by White's column and Black's answer
abbrev pub turn_text : Position → ℕ → Square → List ℕ
turn_text q column reply = turn_line (column, height q column + 1) reply (end_of (after_move (after_move q column) reply.0))

-- ---- the lines of an input

-- the line of a move, by its column
abbrev pub move_line : ℕ → List ℕ
move_line column = letter_of column ∷ []

-- the column of the board whose letter is the line
abbrev pub column_in : Board → List ℕ → Option ℕ
column_in board [] = None
column_in board (letter ∷ []) = column_named board.cols letter
column_in board (letter ∷ next ∷ more) = None

-- why no man can be dropped into the column that a line names, if it names one
abbrev pub move_refusal : Position → Option ℕ → Option PlayKind
move_refusal q None = Some BadMove
move_refusal q (Some column) = if is_some (end_of q) then Some GameOver else (if has_room q column then None else Some ColumnFull)

-- ---- the moves of one side, with any player who answers them

-- what a player makes of a legal column: the line that is written, and the player after it; or it has no answer
abbrev pub Turn : Type 0 → Type 0
Turn X = Option (List ℕ × X)

-- the line of a turn, and what is played after it
abbrev pub with_turn : {X : Type 0} → Turn X → (X → Played) → Played
with_turn None later = ended NoReply
with_turn (Some (line, next)) later = behind (line ∷ []) (later next)

-- a line with this number is a move, or it ends the game
abbrev pub with_move : {X : Type 0} → (ℕ → Turn X) → ℕ → Option ℕ → Option PlayKind → (X → Played) → Played
with_move turn at column (Some kind) later = ended (NoMove (record { kind = kind; at = at }))
with_move turn at None None later = ended (NoMove (record { kind = BadMove; at = at }))
with_move turn at (Some column) None later = with_turn (turn column) later

-- what is played by a player from here on by further lines, of which the first has this number
abbrev pub turns_from : {X : Type 0} → (X → Position) → (X → ℕ → Turn X) → X → ℕ → List (List ℕ) → Played
turns_from stands turn x at [] = ended AllPlayed
turns_from stands turn x at (line ∷ lines) =
    let column = column_in (board_of (stands x)) line in
    with_move (turn x) at column (move_refusal (stands x) column) (λ next. turns_from stands turn next (at + 1) lines)

-- the same, where the position alone says what is answered
abbrev pub played_by : (Position → ℕ → Turn Position) → Position → ℕ → List (List ℕ) → Played
played_by turn q at lines = turns_from (λ q. q) turn q at lines

-- ---- the moves of White's, answered by a plan

-- Black's answer to White's move, where the move doesn't end the game
abbrev pub answer_to : List RuleInstance → Position → ℕ → Option Square
answer_to ws q column = if is_none (end_of (after_move q column)) then plan_reply ws (after_move q column) (column, height q column + 1) else None

-- the line of a turn, and the position after it
abbrev pub turn_with : Position → ℕ → Square → List ℕ × Position
turn_with q column reply = (turn_text q column reply, after_move (after_move q column) reply.0)

abbrev pub plan_turn : List RuleInstance → Position → ℕ → Turn Position
plan_turn ws q column = option_map (turn_with q column) (answer_to ws q column)

-- what is played by the plan from a position on by further lines, of which the first has this number
abbrev pub play_from : List RuleInstance → Position → ℕ → List (List ℕ) → Played
play_from ws q at lines = played_by (plan_turn ws) q at lines

-- ---- the whole

-- the number of the first line of White's
abbrev pub first_move : ℕ
first_move = 4

-- the plan that the third line has; a line is no longer than the longest of a proof
abbrev pub plan_in : Board → List ℕ → Option (List RuleInstance)
plan_in board line = if nat_le (length line) longest_line then read_plan board line else None

-- the list has to be a plan at the game's position
abbrev pub play_by : Position → List RuleInstance → Option PlanFault → List (List ℕ) → Played
play_by root ws (Some fault) lines = ended (NoPlan fault)
play_by root ws None lines = play_from ws root first_move lines

abbrev pub play_list : Position → Option (List RuleInstance) → List (List ℕ) → Played
play_list root None lines = ended NoPlanLine
play_list root (Some ws) lines = play_by root ws (plan_refusal root ws) lines

-- the lines behind the game: the plan's and White's
abbrev pub play_lines : Position → List (List ℕ) → Played
play_lines root [] = ended NoPlanLine
play_lines root (line ∷ lines) = play_list root (plan_in (board_of root) line) lines

abbrev pub play_game : Result Position InputFault → List (List ℕ) → Played
play_game (Err fault) lines = ended (NoGame fault)
play_game (Ok root) lines = play_lines root lines

-- what is played by a whole input, and the text that is written
unfoldable pub play_of : List ℕ → Played
play_of bytes = play_game (game_at (game_of (pieces bytes))) (behind_game (pieces bytes))

abbrev pub text_of : List (List ℕ) → List ℕ
text_of lines = flat_map (λ line. line) lines
