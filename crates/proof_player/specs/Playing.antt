-- A game that is followed by the lemmas of a book: where it stands, and what a move makes of it.
use Rattle.std.specs.Prelude.{◌≡◌, ℕ, Bool, true, false, List, [], Option, Some, None, Err, if◌then◌else◌}
use Rattle.game_rules.specs.Position.{Position, other, side_to_move, end_of, is_legal, after_move}
use Rattle.game_rules.specs.Value.{win_of, same_end}
use Rattle.game_rules.specs.declared.Side.{Side}
use Rattle.game_rules.specs.declared.End.{End}
use Rattle.game_rules.specs.declared.End.TheVariants as ends
use Rattle.proof_text.specs.Lemma.{Cite, Lemma}
use Rattle.proof_text.specs.Right.{Shown, Shows, FollowsFromAll, AreRight}
use Rattle.proof_text.specs.declared.Claim.{Claim}
use Rattle.board_bits.specs.Move.{moved_into}
use Rattle.board_bits.specs.declared.position.MoveFault.{MoveFault}
use Rattle.follow_text.specs.Following.{served_by, seen, Following, at_lemma, answer_to}
use Rattle.proof_player.specs.declared.follow.FollowReply.{FollowReply}
use Rattle.proof_player.specs.declared.follow.FollowReply.TheVariants.{Over, Won, Filled, Move}
use Rattle.proof_player.specs.declared.reasons.Step.{Step}

-- ---- lemmas

-- the number is that of a lemma of a right list
pub record IsLemmaOf (ls : List Lemma) (n : ℕ) : Type 0 where
  pub root : Position
  pub after : List Shown
  pub at : Position
  pub claim : Claim
  pub right : AreRight root [] ls after
  pub shows : Shows after n at claim

-- the lemma of a right list stands at the position as it is seen
pub record StandsAt (ls : List Lemma) (n : ℕ) (turned : Bool) (q : Position) : Type 0 where
  pub root : Position
  pub after : List Shown
  pub claim : Claim
  pub right : AreRight root [] ls after
  pub shows : Shows after n (seen turned q) claim

-- and it serves this side
pub record Serves (ls : List Lemma) (n : ℕ) (q : Position) (holder : Side) : Type 0 where
  pub root : Position
  pub after : List Shown
  pub claim : Claim
  pub right : AreRight root [] ls after
  pub shows : Shows after n q claim
  pub serves : served_by claim ≡ holder

-- These cites are why a claim holds of the position as it is seen, where the other side is to move into the column, which is
-- legal and doesn't end the game.
pub record CitesAll (ls : List Lemma) (cites : List Cite) (turned : Bool) (q : Position) (column : ℕ) : Type 0 where
  pub root : Position
  pub after : List Shown
  pub claim : Claim
  pub right : AreRight root [] ls after
  pub follows : FollowsFromAll after (seen turned q) claim cites
  pub turn : side_to_move q ≡ other (served_by claim)
  pub legal : is_legal q column ≡ true
  pub going : end_of (after_move q column) ≡ None

abbrev pub step_of : Step → ℕ × Following
step_of step = (step.column, at_lemma step.lemma step.turned)

-- ---- a game

-- the book's lemmas, the side that plays by them, the position that the game has come to, and where play stands
pub record FollowState : Type 0 where
  pub lemmas : List Lemma
  pub holder : Side
  pub now : Position
  pub at : Following

-- the reply that a man of the holder's in a column is, by the end of the game after it; the other side has no line there
abbrev pub reply_for : Side → Option End → ℕ → FollowReply
reply_for holder None column = Move column
reply_for holder (Some ends.Draw) column = Filled column
reply_for holder (Some e) column = if same_end (win_of holder) e then Won column else Move column

-- The holder's first move from the root was played, where the lemma with this number names one.
abbrev pub HasBegun : List Lemma → Side → Position → ℕ → FollowState → Option FollowReply → Option (ℕ × Following) → Type 0
HasBegun ls holder root n new reply None = (reply ≡ None) × (new ≡ record { lemmas = ls; holder = holder; now = root; at = at_lemma n false })
HasBegun ls holder root n new reply (Some (column, next)) =
    (reply ≡ Some (reply_for holder (end_of (after_move root column)) column)) × (is_legal root column ≡ true)
    × (new ≡ record { lemmas = ls; holder = holder; now = after_move root column; at = next })

-- the answer to the other side's move, and the state after it
pub record HasReplied (old new : FollowState) (now : Position) (answer : Option (ℕ × Following)) (reply : FollowReply) : Type 0 where
  pub column : ℕ
  pub next : Following
  pub is : answer ≡ Some (column, next)
  pub legal : is_legal now column ≡ true
  pub reply_is : reply ≡ reply_for old.holder (end_of (after_move now column)) column
  pub state : new ≡ record old { now = after_move now column; at = next }

-- The other side's man went into the column; either it filled the board, or the holder's answer was played.
abbrev pub HasGoneOn : FollowState → FollowState → ℕ → FollowReply → Option End → Type 0
HasGoneOn old new column reply (Some e) = (e ≡ ends.Draw) × (reply ≡ Over) × (new ≡ record old { now = after_move old.now column })
HasGoneOn old new column reply None = HasReplied old new (after_move old.now column) (answer_to old.lemmas old.at old.now column) reply

pub record HasFollowed (old new : FollowState) (column : ℕ) (reply : FollowReply) : Type 0 where
  pub legal : is_legal old.now column ≡ true
  pub gone : HasGoneOn old new column reply (end_of (after_move old.now column))

-- Nothing was changed, and the fault is why no man can be dropped into the column.
abbrev pub IsRefused : FollowState → FollowState → ℕ → MoveFault → Type 0
IsRefused old new column fault = (new ≡ old) × (moved_into old.now column ≡ Err fault)
