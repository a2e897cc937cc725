-- Where the player stands, as the definitions see it.
use Rattle.std.specs.Prelude.{◌≡◌, ℕ, Bool, true, List, [], None, ⊤}
use Rattle.game_rules.specs.Position.{Position, other, side_to_move, end_of, is_legal, after_move}
use Rattle.proof_text.specs.Lemma.{Lemma}
use Rattle.proof_text.specs.Right.{Shown, AreRight}
use Rattle.proof_text.specs.declared.Claim.{Claim}
use Rattle.proof_book.specs.Planned.{members}
use Rattle.reply_player.specs.declared.session.Reply.{Reply}
use Rattle.reply_player.specs.declared.session.Reply.TheVariants.{BlackWon, Filled, Move}
use Rattle.follow_text.specs.Following.{served_by, seen, Place as PlainPlace, AtLemma, InPlan, Following, Follows}
use Rattle.proof_player.specs.declared.place.Place.{Place}
use Rattle.proof_player.specs.declared.place.Place.TheVariants as places
use Rattle.proof_player.specs.declared.place.Next.{Next}

abbrev pub place_of : Place → PlainPlace
place_of (places.AtLemma n) = AtLemma n
place_of (places.InPlan session) = InPlan (members session.plan)

abbrev pub following : Place → Bool → Following
following place turned = record { place = place_of place; turned = turned }

abbrev pub next_of : Next → ℕ × Following
next_of next = (next.column, following next.place next.turned)

-- the column of a session's reply
abbrev pub column_in : Reply → ℕ
column_in (BlackWon column) = column
column_in (Filled column) = column
column_in (Move column) = column

-- a session stands at the position as it is seen
abbrev pub IsSession : Place → Position → Type 0
IsSession (places.AtLemma n) q = ⊤
IsSession (places.InPlan session) q = session.stands ≡ q

-- Play by a claim stands at the position, where the other side is to move into the column, which is legal and doesn't end the game.
pub record CanAnswerAt (ls : List Lemma) (s : Following) (before : Position) (column : ℕ) : Type 0 where
  pub root : Position
  pub after : List Shown
  pub claim : Claim
  pub right : AreRight root [] ls after
  pub follows : Follows after claim s before
  pub turn : side_to_move before ≡ other (served_by claim)
  pub legal : is_legal before column ≡ true
  pub going : end_of (after_move before column) ≡ None

pub record CanAnswer (ls : List Lemma) (place : Place) (turned : Bool) (before : Position) (column : ℕ) : Type 0 where
  pub can : CanAnswerAt ls (following place turned) before column
  pub session : IsSession place (seen turned before)
