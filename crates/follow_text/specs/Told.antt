-- What the lines tell that are written while a side plays by a proof: the game of the other side's columns and the holder's
-- answers, by which the holder is served.
use Rattle.std.specs.Prelude.{◌≡◌, ℕ, true, List, [], ◌∷◌, ◌++◌, length, Option, Some, None, Ok, false, ⊤}
use Rattle.game_rules.specs.Position.{Position, board_of, is_legal, side_to_move, after_move}
use Rattle.game_rules.specs.Text.{game_at}
use Rattle.game_rules.specs.declared.Side.{Side}
use Rattle.proof_text.specs.Lemma.{claims_win, Lemma}
use Rattle.proof_text.specs.Texts.{pieces, game_of, behind_game, first_line, answer_of, lemmas_said, Accepted}
use Rattle.proof_text.specs.declared.Claim.{Claim}
use Rattle.proof_text.specs.declared.Verdict.{Verdict}
use Rattle.proof_text.specs.declared.Version.{Version}
use Rattle.play_text.specs.Play.{PlayEnd, NoGame, NoPlanLine, NoPlan, NoThreat, Refused, NoClaim, NoMove, AllPlayed, NoReply, move_line}
use Rattle.follow_text.specs.Following.{served_by, Following, at_lemma, own_move_at, game_by, is_game_by, IsServed}
use Rattle.follow_text.specs.Follow.{first_text, follow_turn, named_for, is_won}

-- ---- lines

-- a line for each of these columns, which stand in the other side's lines in their order: each is legal at its turn, and its line
-- is that of the turn
abbrev pub TellsTurns : List Lemma → Side → Following × Position → (moves lines : List (List ℕ)) → (columns : List ℕ) → Type 0
TellsTurns ls holder x moves [] [] = ⊤
TellsTurns ls holder x moves (line ∷ lines) [] = ⊥
TellsTurns ls holder x moves [] (column ∷ columns) = ⊥
TellsTurns ls holder x [] (line ∷ lines) (column ∷ columns) = ⊥
TellsTurns ls holder x (move ∷ moves) (line ∷ lines) (column ∷ columns) =
    (next : Following × Position) × (move ≡ move_line column) × (is_legal x.1 column ≡ true) × (follow_turn ls holder x column ≡ Some (line, next))
    × TellsTurns ls holder next moves lines columns

-- the same from a lemma at the root, with the line of the holder's first move before them, where it has one
abbrev pub TellsFrom : List Lemma → Side → Position → ℕ → Option (ℕ × Following) → (moves lines : List (List ℕ)) → (columns : List ℕ) → Type 0
TellsFrom ls holder root n None moves lines columns = TellsTurns ls holder (at_lemma n false, root) moves lines columns
TellsFrom ls holder root n (Some (first, next)) moves [] columns = ⊥
TellsFrom ls holder root n (Some (first, next)) moves (line ∷ lines) columns =
    (line ≡ first_text holder root first) × TellsTurns ls holder (next, after_move root first) moves lines columns

-- ---- whole inputs

-- The input begins with a proof that is accepted, whose verdict names a lemma of a claim that serves the holder: where the verdict is a
-- win or a loss, that the holder wins, and else that the other side doesn't. The lines behind it are the other side's, and what was
-- written tells a game by the proof, in which the holder is served.
pub record TellsFollow (holder : Side) (bytes : List ℕ) (lines : List (List ℕ)) : Type 0 where
  pub version : Version
  pub more : List (List ℕ)
  pub first : pieces bytes ≡ first_line version ∷ more
  pub root : Position
  pub game : game_at (game_of more) ≡ Ok root
  pub proof : List (List ℕ)
  pub moves : List (List ℕ)
  pub behind : behind_game more ≡ proof ++ moves
  pub verdict : Verdict
  pub count : ℕ
  pub accepted : answer_of version root proof ≡ Accepted verdict count
  pub lemma : ℕ
  pub named : named_for holder (side_to_move root) verdict ≡ Some lemma
  pub columns : List ℕ
  pub tells : TellsFrom (lemmas_said version (board_of root) proof) holder root lemma
      (own_move_at (lemmas_said version (board_of root) proof) (length root.columns) lemma false) moves lines columns
  pub claim : Claim
  pub serves : served_by claim ≡ holder
  pub wins : claims_win claim ≡ is_won verdict
  pub legal : is_game_by (lemmas_said version (board_of root) proof) root lemma columns ≡ true
  pub served : IsServed claim root (game_by (lemmas_said version (board_of root) proof) root lemma columns)

-- Where the proof isn't accepted, or its verdict names no lemma that serves the holder, nothing is written, and else a game is told.
-- No other end comes: a right proof always has an answer.
abbrev pub IsTold : Side → List ℕ → List (List ℕ) → PlayEnd → Type 0
IsTold holder bytes lines (NoGame fault) = lines ≡ []
IsTold holder bytes lines (Refused at why) = lines ≡ []
IsTold holder bytes lines (NoClaim at) = lines ≡ []
IsTold holder bytes lines (NoMove fault) = TellsFollow holder bytes lines
IsTold holder bytes lines AllPlayed = TellsFollow holder bytes lines
IsTold holder bytes lines NoPlanLine = ⊥
IsTold holder bytes lines (NoPlan fault) = ⊥
IsTold holder bytes lines NoThreat = ⊥
IsTold holder bytes lines NoReply = ⊥
