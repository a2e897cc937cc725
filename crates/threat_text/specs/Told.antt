-- What the lines tell that are written while play goes on by an odd threat: the threat, and the duel of Black's columns and
-- its answers.
use Rattle.std.specs.Prelude.{◌≡◌, ℕ, true, false, List, [], ◌∷◌, length, Some, Ok, slice_get}
use Rattle.game_rules.specs.Board.{Square}
use Rattle.game_rules.specs.Groups.{Group}
use Rattle.game_rules.specs.Position.{Position}
use Rattle.game_rules.specs.Text.{game_at}
use Rattle.game_rules.specs.Value.{value}
use Rattle.game_rules.specs.declared.End.TheVariants as ends
use Rattle.proof_text.specs.Texts.{pieces, game_of, behind_game}
use Rattle.odd_rules.specs.Threat.{Pair, target, is_threat}
use Rattle.odd_rules.specs.Duel.{threat_duel, is_playable_list, IsTurn, IsHeld}
use Rattle.odd_rules.specs.Refusal.{first_threat}
use Rattle.play_text.specs.Play.{PlayEnd, NoGame, NoPlanLine, NoPlan, NoThreat, Refused, NoClaim, NoMove, AllPlayed, NoReply, move_line}
use Rattle.threat_text.specs.Threats.{turn_text, threat_line, no_threat_line}

-- The line tells the turn of the duel that has this place: its column is Black's there, Black's man makes no line and
-- doesn't end the game, White's answer is a playable square, and the line has both squares and that White's man made a line,
-- where it did.
pub record TellsTurn (p : Position) (t : Square) (pairs : List Pair) (columns : List ℕ) (i : ℕ) (line : List ℕ) : Type 0 where
  pub column : ℕ
  pub is_column : slice_get columns i ≡ Some column
  pub turn : IsTurn p t pairs (threat_duel pairs p columns) i column
  pub is_text : line ≡ turn_text pairs turn.now column

-- Each of these columns is legal at its turn and is named by one of Black's lines, in their order; there is a line for each
-- of its turns; and at each position of the duel Black has no line, and White has one where the game has ended.
pub record TellsDuel (p : Position) (t : Square) (pairs : List Pair) (moves lines : List (List ℕ)) : Type 0 where
  pub columns : List ℕ
  pub playable : is_playable_list pairs p columns ≡ true
  pub as_many : length lines ≡ length columns
  pub named : (i column : ℕ) → slice_get columns i ≡ Some column → slice_get moves i ≡ Some (move_line column)
  pub tells : (i : ℕ) (line : List ℕ) → slice_get lines i ≡ Some line → TellsTurn p t pairs columns i line
  pub held : (i : ℕ) (q : Position) → slice_get (threat_duel pairs p columns) i ≡ Some q → IsHeld q

-- The input has a game, and the lines tell the first threat of its position and a duel by it. White wins there under perfect
-- play.
pub record TellsThreat (bytes : List ℕ) (lines : List (List ℕ)) : Type 0 where
  pub root : Position
  pub game : game_at (game_of (pieces bytes)) ≡ Ok root
  pub group : Group
  pub pairs : List Pair
  pub is_first : first_threat root ≡ Some (group, pairs)
  pub is_one : is_threat root group pairs ≡ true
  pub target_square : Square
  pub is_target : target root group ≡ Some target_square
  pub wins : value root ≡ ends.White
  pub turns : List (List ℕ)
  pub is_lines : lines ≡ threat_line group pairs ∷ turns
  pub duel : TellsDuel root target_square pairs (behind_game (pieces bytes)) turns

-- The input has a game, and no group of its board is a threat there with any list of pairs.
pub record HasNoThreat (bytes : List ℕ) : Type 0 where
  pub root : Position
  pub game : game_at (game_of (pieces bytes)) ≡ Ok root
  pub none : (g : Group) (pairs : List Pair) → is_threat root g pairs ≡ false

-- Where the input has no game nothing is written; where there is no threat that is said; and else a duel is told. No other end
-- comes: a threat always has an answer.
abbrev pub IsTold : List ℕ → List (List ℕ) → PlayEnd → Type 0
IsTold bytes lines (NoGame fault) = lines ≡ []
IsTold bytes lines NoThreat = (lines ≡ no_threat_line ∷ []) × HasNoThreat bytes
IsTold bytes lines (NoMove fault) = TellsThreat bytes lines
IsTold bytes lines AllPlayed = TellsThreat bytes lines
IsTold bytes lines NoPlanLine = ⊥
IsTold bytes lines (NoPlan fault) = ⊥
IsTold bytes lines (Refused at why) = ⊥
IsTold bytes lines (NoClaim at) = ⊥
IsTold bytes lines NoReply = ⊥
