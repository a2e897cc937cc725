-- How an input of `follow` begins, as far as its lines tell: with a proof that is accepted up to its verdict, and the holder's lemma.
use Rattle.std.specs.Prelude.{◌≡◌, ℕ, ◌+◌, false, if◌then◌else◌, is_some, List, ◌∷◌, ◌++◌, length, Option, Some, Ok}
use Rattle.game_rules.specs.Position.{Position, board_of, side_to_move}
use Rattle.game_rules.specs.Text.{game_at}
use Rattle.game_rules.specs.declared.Side.{Side}
use Rattle.proof_text.specs.Lemma.{Lemma}
use Rattle.proof_text.specs.Texts.{pieces, game_of, behind_game, first_line, answer_of, lemmas_said, Accepted}
use Rattle.proof_text.specs.declared.Verdict.{Verdict}
use Rattle.proof_text.specs.declared.Version.{Version}
use Rattle.follow_text.specs.Following.{own_move_at}
use Rattle.follow_text.specs.Follow.{named_for}

-- The bytes begin with a proof that is accepted. It says these lemmas, its verdict stands in the line with this number, the last that
-- it has, and these lines stand behind it.
pub record HasVerdict (bytes : List ℕ) (root : Position) (ls : List Lemma) (v : Verdict) (at : ℕ) (moves : List (List ℕ)) : Type 0 where
  pub version : Version
  pub more : List (List ℕ)
  pub first : pieces bytes ≡ first_line version ∷ more
  pub game : game_at (game_of more) ≡ Ok root
  pub proof : List (List ℕ)
  pub behind : behind_game more ≡ proof ++ moves
  pub count : ℕ
  pub accepted : answer_of version root proof ≡ Accepted v count
  pub says : ls ≡ lemmas_said version (board_of root) proof
  pub number : at ≡ 3 + length proof

-- A lemma is named, and so many lines are written before the answers: one exactly where the holder has a move there.
pub record OpensWith (ls : List Lemma) (root : Position) (named : Option ℕ) (opening : ℕ) : Type 0 where
  pub lemma : ℕ
  pub is : named ≡ Some lemma
  pub lines : opening ≡ (if is_some (own_move_at ls (length root.columns) lemma false) then 1 else 0)

-- The bytes begin with so many lines up to the verdict of a proof that is accepted, and so many lines are written for the holder
-- before the answers.
pub record BeginsGame (holder : Side) (bytes : List ℕ) (head opening : ℕ) : Type 0 where
  pub root : Position
  pub lemmas : List Lemma
  pub verdict : Verdict
  pub moves : List (List ℕ)
  pub proof : HasVerdict bytes root lemmas verdict head moves
  pub opens : OpensWith lemmas root (named_for holder (side_to_move root) verdict) opening
