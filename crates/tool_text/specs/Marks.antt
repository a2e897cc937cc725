-- Which moves of a game are mistakes: the value before and after each of them, to the side that moves.
use Rattle.std.specs.Prelude.{◌≡◌, ◌⊎◌, ◌<◌, ℕ, ◌+◌, ◌-◌, Bool, true, false, if◌then◌else◌, List, [], ◌∷◌, ◌++◌, length, take, drop, Some, codes, decimal, ⊤}
use Rattle.game_rules.specs.Board.{Board}
use Rattle.game_rules.specs.Position.{Position, side_to_move, height, after_move, empty_position, played}
use Rattle.game_rules.specs.Value.{win_of, same_end, value}
use Rattle.game_rules.specs.declared.Side.{Side}
use Rattle.game_rules.specs.declared.End.{End}
use Rattle.game_rules.specs.declared.End.TheVariants as ends
use Rattle.proof_text.specs.Items.{square_text}
use Rattle.proof_text.specs.Spelling.{as_line}
use Rattle.tool_text.specs.declared.Mark.{Mark}
use Rattle.tool_text.specs.declared.Mark.TheVariants.{Fine, Bad, Open}

-- what an end is worth to a side: its own win before a draw, and a draw before the other side's win
abbrev pub worth : Side → End → ℕ
worth side end = if same_end (win_of side) end then 2 else (if same_end ends.Draw end then 1 else 0)

-- What a mark says of the move from one position to another, where this holds of a position whose value was found, and of one
-- where it is wanting. It is left open where the value of one of them is wanting, and else both were found.
abbrev pub Says : (Position → Bool → Type 0) → Position → Position → Mark → Type 0
Says Holds p q Fine = Holds p true × Holds q true × (value q ≡ value p)
Says Holds p q Bad = Holds p true × Holds q true × (worth (side_to_move p) (value q) < worth (side_to_move p) (value p))
Says Holds p q Open = Holds p false ⊎ Holds q false

-- each move has its mark, from a position on
abbrev pub AreMarks : (Position → Bool → Type 0) → Position → List ℕ → List Mark → Type 0
AreMarks Holds p [] [] = ⊤
AreMarks Holds p [] (mark ∷ marks) = ⊥
AreMarks Holds p (column ∷ columns) [] = ⊥
AreMarks Holds p (column ∷ columns) (mark ∷ marks) = Says Holds p (after_move p column) mark × AreMarks Holds (after_move p column) columns marks

-- the last moves of a game, of which so many are left out before them, have their marks
abbrev pub AreMarksBehind : (Position → Bool → Type 0) → Board → List ℕ → ℕ → List Mark → Type 0
AreMarksBehind Holds board columns first marks =
    (p : Position) → played (empty_position board) (take first columns) ≡ Some p → AreMarks Holds p (drop first columns) marks

-- the same of the last so many moves, or of all where there are fewer
abbrev pub AreLastMarks : (Position → Bool → Type 0) → Board → List ℕ → ℕ → List Mark → Type 0
AreLastMarks Holds board columns last marks = AreMarksBehind Holds board columns (length columns - last) marks

-- ---- what is written of them

abbrev pub mark_word : Mark → List ℕ
mark_word Fine = codes "ok"
mark_word Bad = codes "bad"
mark_word Open = codes "open"

-- the number of the move, the square to which it goes, and its mark
abbrev pub mark_line : ℕ → Position → ℕ → Mark → List ℕ
mark_line n p column mark = as_line (decimal n ++ (32 ∷ (square_text (column, height p column + 1) ++ (32 ∷ mark_word mark))))

-- the lines of moves from a position on, the first of which has this number
abbrev pub mark_lines : ℕ → Position → List ℕ → List Mark → List ℕ
mark_lines n p [] marks = []
mark_lines n p (column ∷ columns) [] = []
mark_lines n p (column ∷ columns) (mark ∷ marks) = mark_line n p column mark ++ mark_lines (n + 1) (after_move p column) columns marks
