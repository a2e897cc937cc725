-- A game that is followed, as a text. The input is a proof up to its verdict, and then a line for each move of the other
-- side, which is the letter of its column; the output is a line for the holder's first move, where it has one, and a line for
-- each move of the other side, with its square and the square of the holder's answer. The text is this project's own.
use Rattle.std.specs.Prelude.{ℕ, suc, ◌+◌, ◌-◌, Bool, true, false, if◌then◌else◌, List, [], ◌∷◌, ◌++◌, length, take, drop}
use Rattle.std.specs.Prelude.{Option, Some, None, is_none, option_map, Result, Ok, Err, codes, bytes_eq}
use Rattle.game_rules.specs.Board.{Board, Square}
use Rattle.game_rules.specs.Position.{Position, board_of, other, same_side, height, side_to_move, end_of, after_move}
use Rattle.game_rules.specs.Value.{win_of, same_end}
use Rattle.game_rules.specs.Text.{game_at}
use Rattle.game_rules.specs.declared.Side.{Side}
use Rattle.game_rules.specs.declared.Side.TheVariants as sides
use Rattle.game_rules.specs.declared.End.{End}
use Rattle.game_rules.specs.declared.End.TheVariants as results
use Rattle.game_rules.specs.declared.InputFault.{InputFault}
use Rattle.plan_text.specs.Items.{square_text}
use Rattle.proof_text.specs.Lemma.{Lemma, Line, ALemma, ARemark, AVerdict}
use Rattle.proof_text.specs.Checked.{CheckerState}
use Rattle.proof_text.specs.Spelling.{as_line}
use Rattle.proof_text.specs.Reading.{read_line}
use Rattle.proof_text.specs.Texts.{pieces, game_of, behind_game, first_number, first_line, version_of, answer_of, check_from, lemmas_said, CheckAnswer}
use Rattle.proof_text.specs.Texts as texts
use Rattle.proof_text.specs.declared.Verdict.{Verdict}
use Rattle.proof_text.specs.declared.Verdict.TheVariants.{Win, Loss, Draw, Unknown}
use Rattle.proof_text.specs.declared.Version.{Version}
use Rattle.proof_text.specs.declared.Why.TheVariants.{BadLine}
use Rattle.play_text.specs.Play as ends
use Rattle.play_text.specs.Play.{Played, ended, behind, Turn, turns_from}
use Rattle.follow_text.specs.Following.{Following, at_lemma, own_move_at, answer_to}

-- ---- a turn

-- what is said of the end of the game; the side that doesn't hold has no line
abbrev pub end_text : Side → Option End → List ℕ
end_text holder None = []
end_text holder (Some results.Draw) = codes " full"
end_text holder (Some e) = if same_end (win_of holder) e then codes " won" else []

-- the square to which a man in the column falls
abbrev pub falls_to : Position → ℕ → Square
falls_to q column = (column, height q column + 1)

-- the line of the holder's first move, which is its column
abbrev pub first_text : Side → Position → ℕ → List ℕ
first_text holder q column = as_line (codes "- " ++ (square_text (falls_to q column) ++ end_text holder (end_of (after_move q column))))

-- the line of a move of the other side's that ended the game
abbrev pub over_text : Side → Position → ℕ → List ℕ
over_text holder q column = as_line (square_text (falls_to q column) ++ (codes " -" ++ end_text holder (end_of (after_move q column))))

-- the line of a move of the other side's and the holder's answer, by their columns
abbrev pub answer_text : Side → Position → ℕ → ℕ → List ℕ
answer_text holder q column answer =
    as_line (square_text (falls_to q column) ++ (32 ∷ (square_text (falls_to (after_move q column) answer)
    ++ end_text holder (end_of (after_move (after_move q column) answer)))))

-- ---- the other side's moves

-- the line of a turn, and where play goes on
abbrev pub answered_with : Side → Position → ℕ → ℕ × Following → List ℕ × (Following × Position)
answered_with holder q column answer = (answer_text holder q column answer.0, (answer.1, after_move (after_move q column) answer.0))

-- the holder's answer, where the other side's move doesn't end the game
abbrev pub follow_turn : List Lemma → Side → Following × Position → ℕ → Turn (Following × Position)
follow_turn ls holder (s, q) column =
    if is_none (end_of (after_move q column)) then option_map (answered_with holder q column) (answer_to ls s q column)
    else Some (over_text holder q column, (s, after_move q column))

-- what is played from a position on by further lines, of which the first has this number
abbrev pub follow_from : List Lemma → Side → Following → Position → ℕ → List (List ℕ) → Played
follow_from ls holder s q at lines = turns_from (λ x. x.1) (follow_turn ls holder) (s, q) at lines

-- the same from a lemma at the root, the holder's first move before it, where there is one
abbrev pub begin_by : List Lemma → Side → Position → ℕ → ℕ → List (List ℕ) → Option (ℕ × Following) → Played
begin_by ls holder root n at lines None = follow_from ls holder (at_lemma n false) root at lines
begin_by ls holder root n at lines (Some (first, next)) =
    behind (first_text holder root first ∷ []) (follow_from ls holder next (after_move root first) at lines)

abbrev pub follow_at : List Lemma → Side → Position → ℕ → ℕ → List (List ℕ) → Played
follow_at ls holder root n at lines = begin_by ls holder root n at lines (own_move_at ls (length root.columns) n false)

-- ---- the whole

-- the lemma that a verdict names and that serves the holder, where this side is to move at the root
abbrev pub named_for : Side → Side → Verdict → Option ℕ
named_for holder mover (Win n) = if same_side holder mover then Some n else None
named_for holder mover (Loss n) = if same_side holder (other mover) then Some n else None
named_for sides.White mover (Draw n m) = Some m
named_for sides.Black mover (Draw n m) = Some n
named_for holder mover Unknown = None

-- whether a verdict is that a side wins
abbrev pub is_won : Verdict → Bool
is_won (Win n) = true
is_won (Loss n) = true
is_won (Draw n m) = false
is_won Unknown = false

-- how many lines there are up to the first that reads as a verdict, with it; where none does, all
abbrev pub is_verdict : Option Line → Bool
is_verdict None = false
is_verdict (Some (ALemma l)) = false
is_verdict (Some ARemark) = false
is_verdict (Some (AVerdict v)) = true

abbrev pub lines_to_verdict : Version → Board → List (List ℕ) → ℕ
lines_to_verdict version board [] = 0
lines_to_verdict version board (line ∷ lines) = if is_verdict (read_line version board line) then 1 else suc (lines_to_verdict version board lines)

-- play goes on behind the verdict, which has this number, by the lemma that it names for the holder, if it names one
abbrev pub follow_named : List Lemma → Side → Position → ℕ → List (List ℕ) → Option ℕ → Played
follow_named ls holder root at lines None = ended (ends.NoClaim at)
follow_named ls holder root at lines (Some n) = follow_at ls holder root n (at + 1) lines

-- the proof is judged as every proof is; the number is that of its last line
abbrev pub follow_answer : List Lemma → Side → Position → ℕ → List (List ℕ) → CheckAnswer → Played
follow_answer ls holder root at lines (texts.NoGame fault) = ended (ends.NoGame fault)
follow_answer ls holder root at lines (texts.Refused line why) = ended (ends.Refused line why)
follow_answer ls holder root at lines (texts.Accepted v count) = follow_named ls holder root at lines (named_for holder (side_to_move root) v)

-- ---- line by line

-- what comes of further lines, the first of which has this number, behind what stands, where the lines before them said these
-- lemmas: so many of them are the proof's
abbrev pub judged_cut : Side → Version → CheckerState → List Lemma → ℕ → List (List ℕ) → ℕ → Played
judged_cut holder version s ls at lines count =
    follow_answer (ls ++ lemmas_said version (board_of s.root) (take count lines)) holder s.root (at + count - 1) (drop count lines)
    (check_from version s at (take count lines))

-- behind a verdict come the other side's moves
abbrev pub judged_behind : Side → Version → CheckerState → List Lemma → ℕ → List (List ℕ) → Option Verdict → Played
judged_behind holder version s ls at lines None = judged_cut holder version s ls at lines (lines_to_verdict version (board_of s.root) lines)
judged_behind holder version s ls at lines (Some v) = follow_named ls holder s.root (at - 1) lines (named_for holder (side_to_move s.root) v)

abbrev pub judged_from : Side → Version → CheckerState → List Lemma → ℕ → List (List ℕ) → Played
judged_from holder version s ls at lines = judged_behind holder version s ls at lines s.verdict

-- ---- whole inputs

-- the lines behind a game: so many of them are the proof's, the others the other side's moves
abbrev pub follow_cut : Side → Version → Position → List (List ℕ) → ℕ → Played
follow_cut holder version root lines count =
    follow_answer (lemmas_said version (board_of root) (take count lines)) holder root (count + (first_number - 1)) (drop count lines)
    (answer_of version root (take count lines))

abbrev pub follow_game : Side → Version → Result Position InputFault → List (List ℕ) → Played
follow_game holder version (Err fault) lines = ended (ends.NoGame fault)
follow_game holder version (Ok root) lines = follow_cut holder version root lines (lines_to_verdict version (board_of root) lines)

abbrev pub follow_pieces : Side → Version → List (List ℕ) → Played
follow_pieces holder version [] = ended (ends.Refused 1 BadLine)
follow_pieces holder version (first ∷ more) =
    if bytes_eq first (first_line version) then follow_game holder version (game_at (game_of more)) (behind_game more) else ended (ends.Refused 1 BadLine)

-- what is played by a whole input, and how it ends
unfoldable pub follow_of : Side → List ℕ → Played
follow_of holder bytes = follow_pieces holder (version_of bytes) (pieces bytes)
