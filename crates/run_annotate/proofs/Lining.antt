-- The lines of moves, one after the other.
use Rattle.std.proofs.Common.{◌≡◌, ℕ, ◌+◌, ◌<◌, List, ◌∷◌, ◌++◌, length, drop, get_or, sym, ap, ◌∙◌}
use Rattle.std.proofs.lemmas.List.{drop_more}
use Rattle.game_rules.specs.Position.{Position, after_move}
use Rattle.tool_text.specs.Marks.{mark_line, mark_lines}
use Rattle.tool_text.specs.declared.Mark.{Mark}

-- the lines that are left begin with that of the next move
pub next_line : (n : ℕ) (p : Position) (columns : List ℕ) (marks : List Mark) (i column : ℕ) (none : Mark) → i < length columns → i < length marks
    → column ≡ get_or columns i column
    → mark_lines n p (drop i columns) (drop i marks)
    ≡ mark_line n p column (get_or marks i none) ++ mark_lines (n + 1) (after_move p column) (drop (i + 1) columns) (drop (i + 1) marks)
next_line n p columns marks i column none low within at =
    ap (λ columns. mark_lines n p columns (drop i marks))
    (drop_more columns i column low ∙ ap (λ c. c ∷ drop (i + 1) columns) (sym at))
    ∙ ap (mark_lines n p (column ∷ drop (i + 1) columns)) (drop_more marks i none within)
