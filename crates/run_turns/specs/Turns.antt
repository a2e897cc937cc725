-- The line of a turn, and what is said of a line that is no move.
use Rattle.std.specs.Prelude.{◌≡◌, ℕ, ◌+◌, true, List, [], ◌∷◌, ◌++◌, Option, Some, None, option_map, IfSome, codes, decimal}
use Rattle.game_rules.specs.Board.{Square}
use Rattle.game_rules.specs.Position.{Position, height, has_room, after_move}
use Rattle.plan_text.specs.Items.{square_text}
use Rattle.proof_text.specs.Spelling.{as_line}
use Rattle.play_text.specs.Words.{kind_word}
use Rattle.play_text.specs.declared.PlayFault.{PlayFault}
use Rattle.run_turns.specs.declared.turn.Turn.{Turn}
use Rattle.run_turns.specs.declared.turn.TurnEnd.{TurnEnd}
use Rattle.run_turns.specs.declared.turn.TurnEnd.TheVariants.{GoesOn, Won, Full}

-- a man's square, or that there is none
abbrev pub man_text : Option Square → List ℕ
man_text None = codes "-"
man_text (Some square) = square_text square

-- what the last man ended
abbrev pub end_words : TurnEnd → List ℕ
end_words GoesOn = []
end_words Won = codes " won"
end_words Full = codes " full"

-- the other side's man, the player's, and what the last of them ended
abbrev pub turn_line : Turn → List ℕ
turn_line turn = as_line (man_text turn.theirs ++ (32 ∷ (man_text turn.mine ++ end_words turn.end)))

-- the square to which a man in the column falls
abbrev pub falls_to : Position → ℕ → Square
falls_to q column = (column, height q column + 1)

-- the position after it
abbrev pub moved_by : Position → Option ℕ → Position
moved_by q None = q
moved_by q (Some column) = after_move q column

abbrev pub HasRoom : Position → Option ℕ → Type 0
HasRoom q man = IfSome man (λ column. has_room q column ≡ true)

-- the turn from a position, by the columns of its men
abbrev pub turn_from : Position → Option ℕ → Option ℕ → TurnEnd → Turn
turn_from q theirs mine end = record { theirs = option_map (falls_to q) theirs; mine = option_map (falls_to (moved_by q theirs)) mine; end = end }

-- why a line is no move, and its number
abbrev pub move_fault_line : PlayFault → List ℕ
move_fault_line fault = as_line (codes "input fault: " ++ kind_word fault.kind ++ codes " at line " ++ decimal fault.at)
