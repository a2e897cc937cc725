-- The fields of a player, and what is kept of them.
use Rattle.std.specs.Prelude.{◌≡◌, List, [], None}
use Rattle.game_rules.specs.Position.{Position, other, side_to_move, end_of}
use Rattle.game_rules.specs.declared.Side.{Side}
use Rattle.proof_text.specs.Lemma.{Lemma}
use Rattle.proof_text.specs.Right.{Shown, AreRight}
use Rattle.proof_text.specs.declared.Claim.{Claim}
use Rattle.follow_text.specs.Following.{served_by, seen, Follows, IsHeld}
use Rattle.proof_player.specs.Playing.{FollowState}
use Rattle.proof_player.specs.Places.{following, IsSession}
use Rattle.proof_player.specs.declared.follow.Follow.TheInside.{Inside}

abbrev pub state_of : Inside → FollowState
state_of a = record { lemmas = a.book.now; holder = a.holder; now = a.now; at = following a.place a.turned }

-- The lemmas are right, and there is a claim that serves the holder.
pub record Grounds (ls : List Lemma) (holder : Side) : Type 0 where
  pub root : Position
  pub after : List Shown
  pub claim : Claim
  pub right : AreRight root [] ls after
  pub serves : served_by claim ≡ holder

-- The claim that is followed is held; and while the game goes on, play by the claim stands there and the other side is to move.
pub record IsFollowing (a : Inside) : Type 0 where
  pub on : Grounds a.book.now a.holder
  pub held : IsHeld on.claim a.now
  pub stands : end_of a.now ≡ None → Follows on.after on.claim (following a.place a.turned) a.now
      × (side_to_move a.now ≡ other (served_by on.claim)) × IsSession a.place (seen a.turned a.now)
