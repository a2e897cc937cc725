-- How a game begins: with the move that the lemma names, or with none, where the other side is to move or the game has ended.
use Rattle.std.proofs.Common.{◌≡◌, ◌≢◌, ◌↔◌, ℕ, true, false, List, length, Option, Some, None, is_some, sym, ap, ◌∙◌, subst}
use Rattle.std.proofs.lemmas.Option.{some_pair_parts}
use Rattle.game_rules.specs.Position.{Position, other, side_to_move, has_room, end_of, is_legal, after_move}
use Rattle.game_rules.specs.declared.Side.{Side}
use Rattle.game_rules.specs.declared.Side.TheVariants.{White, Black}
use Rattle.game_rules.proofs.Ends.{legal_parts}
use Rattle.proof_text.specs.Lemma.{Lemma}
use Rattle.proof_text.specs.Right.{Shown}
use Rattle.proof_text.specs.declared.Claim.{Claim}
use Rattle.follow_text.specs.Following.{served_by, Following, own_move_at, Follows, IsHeld}
use Rattle.follow_text.proofs.Moves.{own_answer, held_shown}
use Rattle.follow_text.proofs.Games.{names_move, names_none, turn_passed}
use Rattle.proof_player.specs.Playing.{Serves, FollowState, reply_for, HasBegun}
use Rattle.proof_player.specs.FollowFields.{Grounds}
use Rattle.proof_player.specs.declared.follow.FollowReply.{FollowReply}

pub not_other : (side : Side) → side ≡ other side → ⊥
not_other White h = cc
not_other Black h = cc

-- what the first move leads to
pub record Begins (after : List Shown) (claim : Claim) (q : Position) (column : ℕ) (next : Following) : Type 0 where
  pub going : end_of q ≡ None
  pub turn : side_to_move q ≡ served_by claim
  pub legal : is_legal q column ≡ true
  pub held : IsHeld claim (after_move q column)
  pub follows : Follows after claim next (after_move q column)
  pub passed : side_to_move (after_move q column) ≡ other (served_by claim)

-- the lemma from which a game begins at this position
module _ (ls : List Lemma) (holder : Side) (q : Position) (n : ℕ) (from : Serves ls n q holder) where
  abbrev pub grounds : Grounds ls holder
  grounds = record { root = from.root; after = from.after; claim = from.claim; right = from.right; serves = from.serves }

  pub held_there : IsHeld from.claim q
  held_there = held_shown from.root ls from.after from.claim from.right n false q from.shows

  -- ---- there is no move

  module _ (none : None ≡ own_move_at ls (length q.columns) n false) where
    pub passed_on : end_of q ≡ None → side_to_move q ≡ other (served_by from.claim)
    passed_on = names_none from.root ls from.after from.claim from.right n false q from.shows (sym none)

    pub none_wanted : (reply : Option FollowReply) → reply ≡ None → (reply ≢ None) ↔ ((end_of q ≡ None) × (side_to_move q ≡ holder))
    none_wanted reply is =
        (λ some. absurd (some is), λ wanted h. not_other (served_by from.claim) (from.serves ∙ sym wanted.1 ∙ passed_on wanted.0))

  -- ---- the lemma names it

  module _ (column : ℕ) (next : Following) (named : Some (column, next) ≡ own_move_at ls (length q.columns) n false) where
    pub begins : Begins from.after from.claim q column next
    begins =
        let turn = names_move from.root ls from.after from.claim from.right n false q (column, next) from.shows (sym named) in
        let has = own_answer from.root ls from.after from.claim from.right n false q from.shows turn.1 turn.0 in
        let parts = some_pair_parts has.column column has.next next (sym has.is ∙ sym named) in
        subst (Begins from.after from.claim q column) parts.1 (subst (λ c. Begins from.after from.claim q c has.next) parts.0
        (record {
          going = turn.0;
          turn = turn.1;
          legal = has.legal;
          held = has.held;
          follows = has.follows;
          passed = turn_passed from.claim q has.column turn.1 has.legal;
        }))

    pub first_room : has_room q column ≡ true
    first_room = (legal_parts q column begins.legal).1

    pub some_wanted : (reply : Option FollowReply) → is_some reply ≡ true → (reply ≢ None) ↔ ((end_of q ≡ None) × (side_to_move q ≡ holder))
    some_wanted reply some =
        (λ h. (begins.going, begins.turn ∙ from.serves), λ wanted none. let both : true ≡ false = sym some ∙ ap is_some none in absurd (cc both))

    pub has_begun : (now : Position) → now ≡ after_move q column → (reply : FollowReply) → reply ≡ reply_for holder (end_of now) column
        → HasBegun ls holder q n (record { lemmas = ls; holder = holder; now = now; at = next }) (Some reply) (own_move_at ls (length q.columns) n false)
    has_begun now moved reply replied =
        let new : FollowState = record { lemmas = ls; holder = holder; now = now; at = next } in
        let told : HasBegun ls holder q n new (Some reply) (Some (column, next)) = (
          ap (λ reply. Some reply) (replied ∙ ap (λ q. reply_for holder (end_of q) column) moved),
          begins.legal,
          ap (λ (q : Position). record { lemmas = ls; holder = holder; now = q; at = next }) moved,
        ) in
        subst (HasBegun ls holder q n new (Some reply)) named told
