-- What the lines tell that are written while play goes on by a plan: the duel of White's columns and the plan's answers.
use Rattle.std.specs.Prelude.{◌≡◌, ℕ, true, List, [], ◌∷◌, length, Some, Ok, slice_get}
use Rattle.game_rules.specs.Position.{Position, board_of}
use Rattle.game_rules.specs.Laws.{HasLine}
use Rattle.game_rules.specs.Text.{game_at}
use Rattle.game_rules.specs.declared.Side.TheVariants.{White}
use Rattle.plan_rules.specs.Rules.{RuleInstance}
use Rattle.plan_rules.specs.Plan.{is_plan, duel, is_playable_list, IsTurn}
use Rattle.proof_text.specs.Texts.{pieces, game_of, behind_game}
use Rattle.play_text.specs.Play.{PlayEnd, NoGame, NoPlanLine, NoPlan, NoThreat, Refused, NoClaim, NoMove, AllPlayed, NoReply, move_line, turn_text, plan_in}

-- The line tells the turn of the duel that has this place: its column is White's there, and the line has White's square,
-- Black's by the plan, and what Black's man ended.
pub record TellsTurn (p : Position) (ws : List RuleInstance) (columns : List ℕ) (i : ℕ) (line : List ℕ) : Type 0 where
  pub column : ℕ
  pub is_column : slice_get columns i ≡ Some column
  pub turn : IsTurn p ws (duel ws p columns) i column
  pub is_text : line ≡ turn_text turn.now column turn.answered.reply

-- Each of these columns is legal at its turn and is named by one of White's lines, in their order; there is a line for each
-- of its turns; and White has no line in any position of the duel.
pub record TellsDuel (p : Position) (ws : List RuleInstance) (moves lines : List (List ℕ)) : Type 0 where
  pub columns : List ℕ
  pub playable : is_playable_list ws p columns ≡ true
  pub as_many : length lines ≡ length columns
  pub named : (i column : ℕ) → slice_get columns i ≡ Some column → slice_get moves i ≡ Some (move_line column)
  pub tells : (i : ℕ) (line : List ℕ) → slice_get lines i ≡ Some line → TellsTurn p ws columns i line
  pub no_line : (i : ℕ) (q : Position) → slice_get (duel ws p columns) i ≡ Some q → HasLine q White → ⊥

-- The input has a game and the line of a plan at its position, and the lines tell the duel by it.
pub record TellsPlay (bytes : List ℕ) (lines : List (List ℕ)) : Type 0 where
  pub root : Position
  pub game : game_at (game_of (pieces bytes)) ≡ Ok root
  pub first : List ℕ
  pub moves : List (List ℕ)
  pub behind : behind_game (pieces bytes) ≡ first ∷ moves
  pub list : List RuleInstance
  pub is_list : plan_in (board_of root) first ≡ Some list
  pub is_one : is_plan root list ≡ true
  pub duel : TellsDuel root list moves lines

-- Where there is no plan nothing is written, and else a duel is told. No other end comes: a plan always has an answer.
abbrev pub IsTold : List ℕ → List (List ℕ) → PlayEnd → Type 0
IsTold bytes lines (NoGame fault) = lines ≡ []
IsTold bytes lines NoPlanLine = lines ≡ []
IsTold bytes lines (NoPlan fault) = lines ≡ []
IsTold bytes lines NoThreat = ⊥
IsTold bytes lines (Refused at why) = ⊥
IsTold bytes lines (NoClaim at) = ⊥
IsTold bytes lines (NoMove fault) = TellsPlay bytes lines
IsTold bytes lines AllPlayed = TellsPlay bytes lines
IsTold bytes lines NoReply = ⊥
