-- A game that is played by an odd threat of White's. The input is the text of a game in two lines, and then a line for each
-- move of Black's, which is the letter of its column; the output is a line that names the threat, and one for each move, with
-- Black's square and the square of White's answer. The text is this project's own.
use Rattle.std.specs.Prelude.{ℕ, List, [], ◌∷◌, ◌++◌, Option, Some, None, option_map, Result, Ok, Err, codes, flat_map}
use Rattle.game_rules.specs.Board.{Square}
use Rattle.game_rules.specs.Groups.{Group}
use Rattle.game_rules.specs.Position.{Position, end_of}
use Rattle.game_rules.specs.Text.{game_at}
use Rattle.game_rules.specs.declared.End.{End}
use Rattle.game_rules.specs.declared.End.TheVariants as ends
use Rattle.game_rules.specs.declared.InputFault.{InputFault}
use Rattle.plan_rules.specs.Rules.{baseinverse}
use Rattle.plan_text.specs.Items.{square_text, group_text, instance_text}
use Rattle.proof_text.specs.Spelling.{as_line}
use Rattle.proof_text.specs.Texts.{pieces, game_of, behind_game}
use Rattle.odd_rules.specs.Threat.{Pair}
use Rattle.odd_rules.specs.Duel.{answer_of, top_of, answered_move, after_turn}
use Rattle.odd_rules.specs.Refusal.{first_threat}
use Rattle.play_text.specs.Play.{NoGame, NoThreat, Played, ended, behind, Turn, played_by}

-- ---- a turn

-- what is said of the end of the game by White's man; Black has no line after it, and the board isn't full without White's
abbrev pub end_text : Option End → List ℕ
end_text (Some ends.White) = codes " won"
end_text (Some ends.Black) = []
end_text (Some ends.Draw) = []
end_text None = []

-- Black's square, White's, and what White's man ended
abbrev pub answer_line : Square → Square → Option End → List ℕ
answer_line black white end = as_line (square_text black ++ (32 ∷ (square_text white ++ end_text end)))

-- the line of a turn from a position, by Black's column
abbrev pub turn_text : List Pair → Position → ℕ → List ℕ
turn_text pairs q column = answer_line (top_of q column) (answer_of pairs (top_of q column)) (end_of (answered_move pairs q column))

-- the line of a turn, and the position after it
abbrev pub turn_with : List Pair → Position → ℕ → Position → List ℕ × Position
turn_with pairs q column next = (turn_text pairs q column, next)

-- White's answer to Black's move, where the move doesn't end the game
abbrev pub threat_turn : List Pair → Position → ℕ → Turn Position
threat_turn pairs q column = option_map (turn_with pairs q column) (after_turn pairs q column)

-- what is played by the threat from a position on by further lines, of which the first has this number
abbrev pub answers_from : List Pair → Position → ℕ → List (List ℕ) → Played
answers_from pairs q at lines = played_by (threat_turn pairs) q at lines

-- ---- the whole

-- the number of the first line of Black's
abbrev pub first_move : ℕ
first_move = 3

-- a pair is written as a Baseinverse, with a space before it
abbrev pub pair_text : Pair → List ℕ
pair_text x = 32 ∷ instance_text (baseinverse x.0 x.1)

-- the group and the pairs of a threat
abbrev pub threat_line : Group → List Pair → List ℕ
threat_line g pairs = as_line (codes "threat " ++ (group_text g ++ flat_map pair_text pairs))

abbrev pub no_threat_line : List ℕ
no_threat_line = as_line (codes "no threat")

-- the first threat is told, and then Black's lines are answered by it
abbrev pub threat_lines : Position → Option (Group × List Pair) → List (List ℕ) → Played
threat_lines root None lines = record { lines = no_threat_line ∷ []; end = NoThreat }
threat_lines root (Some (g, pairs)) lines = behind (threat_line g pairs ∷ []) (answers_from pairs root first_move lines)

abbrev pub threat_game : Result Position InputFault → List (List ℕ) → Played
threat_game (Err fault) lines = ended (NoGame fault)
threat_game (Ok root) lines = threat_lines root (first_threat root) lines

-- what is played by a whole input; where there is no threat the lines behind the game aren't read
unfoldable pub threat_of : List ℕ → Played
threat_of bytes = threat_game (game_at (game_of (pieces bytes))) (behind_game (pieces bytes))
