-- How a game goes on after the other side's move: with the holder's answer, or it has ended with a full board.
use Rattle.std.proofs.Common.{◌≡◌, ℕ, Bool, true, false, Option, Some, None, is_some, Result, Ok, refl, sym, ap, ◌∙◌, subst}
use Rattle.game_rules.specs.Position.{Position, other, side_to_move, has_room, end_of, is_legal, after_move}
use Rattle.game_rules.specs.declared.End.{End}
use Rattle.game_rules.proofs.Ends.{legal_parts}
use Rattle.board_bits.specs.Move.{moved_into}
use Rattle.board_bits.specs.declared.position.MoveFault.{MoveFault}
use Rattle.board_bits.proofs.MovesMade.{move_made}
use Rattle.follow_text.specs.Following.{served_by, seen, answer_to, Follows, IsHeld}
use Rattle.follow_text.proofs.Moves.{answered}
use Rattle.proof_player.specs.Playing.{FollowState, reply_for, HasReplied, HasGoneOn, HasFollowed}
use Rattle.proof_player.specs.Places.{following, IsSession, CanAnswerAt, CanAnswer}
use Rattle.proof_player.specs.FollowFields.{state_of, IsFollowing}
use Rattle.proof_player.specs.declared.place.Place.{Place}
use Rattle.proof_player.specs.declared.follow.FollowReply.{FollowReply}
use Rattle.proof_player.specs.declared.follow.FollowReply.TheVariants.{Over}
use Rattle.proof_player.specs.declared.follow.Follow.TheInside.{Inside}
use Rattle.proof_player.proofs.Answered.{ended_full, Leads, leads}

none_of : (found : Option End) → is_some found ≡ false → found ≡ None
none_of None h = refl
none_of (Some e) h = absurd (cc h)

-- A player who has begun, as a caller sees it; and the other side's man was dropped into the column.
module _ (a : Inside) (s : FollowState) (view : state_of a ≡ s) (inv : IsFollowing a) (column : ℕ) (now : Position)
    (played : Result Position MoveFault) (moved : played ≡ moved_into a.now column) (was : played ≡ Ok now) where
  made : (is_legal a.now column ≡ true) × (now ≡ after_move a.now column)
  made = move_made a.now now column (sym moved ∙ was)

  legal : is_legal a.now column ≡ true
  legal = made.0

  same_now : now ≡ after_move a.now column
  same_now = made.1

  stood : Follows inv.on.after inv.on.claim (following a.place a.turned) a.now × (side_to_move a.now ≡ other (served_by inv.on.claim))
      × IsSession a.place (seen a.turned a.now)
  stood = inv.stands (legal_parts a.now column legal).0

  held_there : IsHeld inv.on.claim (after_move a.now column)
  held_there =
      (answered inv.on.root a.book.now inv.on.after inv.on.claim inv.on.right (following a.place a.turned) a.now column stood.0 stood.1 legal).0

  module _ (ended : Option End) (there : ended ≡ end_of now) (over : Bool) (told : over ≡ is_some ended) where
    is_over : is_some (end_of now) ≡ over
    is_over = ap is_some (sym there) ∙ sym told

    -- ---- the game has ended

    pub ended_following : over ≡ true → IsFollowing (record a { now = now })
    ended_following some =
        record {
          on = inv.on;
          held = subst (IsHeld inv.on.claim) (sym same_now) held_there;
          stands = λ going. let both : true ≡ false = sym (is_over ∙ some) ∙ ap is_some going in absurd (cc both);
        }

    pub has_ended : over ≡ true → HasFollowed s (state_of (record a { now = now })) column Over
    has_ended some =
        subst (λ s. HasFollowed s (state_of (record a { now = now })) column Over) view
        (record { legal = legal; gone = of_end (end_of (after_move a.now column)) refl (ap (λ q. is_some (end_of q)) (sym same_now) ∙ is_over ∙ some) })
      where
        of_end : (end : Option End) → end_of (after_move a.now column) ≡ end → is_some end ≡ true
            → HasGoneOn (state_of a) (state_of (record a { now = now })) column Over end
        of_end None ended h = absurd (cc h)
        of_end (Some e) ended h = (
          ended_full inv.on.claim a.now column e held_there stood.1 legal ended,
          refl,
          ap (λ (q : Position). state_of (record a { now = q })) same_now,
        )

    -- ---- the game goes on

    module _ (none : over ≡ false) where
      goes_on : end_of (after_move a.now column) ≡ None
      goes_on = ap end_of (sym same_now) ∙ none_of (end_of now) (is_over ∙ none)

      abbrev there_at : CanAnswerAt a.book.now (following a.place a.turned) a.now column
      there_at =
          record {
            root = inv.on.root;
            after = inv.on.after;
            claim = inv.on.claim;
            right = inv.on.right;
            follows = stood.0;
            turn = stood.1;
            legal = legal;
            going = goes_on;
          }

      pub can_answer : CanAnswer a.book.now a.place a.turned a.now column
      can_answer = record { can = there_at; session = stood.2 }

      module _ (answer : ℕ) (place : Place) (turned : Bool)
          (is : answer_to a.book.now (following a.place a.turned) a.now column ≡ Some (answer, following place turned)) where
        lead : Leads inv.on.after inv.on.claim (after_move a.now column) answer (following place turned)
        lead = leads a.book.now (following a.place a.turned) a.now column answer (following place turned) there_at is

        pub answer_room : has_room now answer ≡ true
        answer_room = ap (λ q. has_room q answer) same_now ∙ (legal_parts (after_move a.now column) answer lead.legal).1

        module _ (last : Position) (next : last ≡ after_move now answer) where
          same_last : last ≡ after_move (after_move a.now column) answer
          same_last = next ∙ ap (λ q. after_move q answer) same_now

          pub answered_following : IsSession place (seen turned (after_move (after_move a.now column) answer))
              → IsFollowing (record a { now = last; place = place; turned = turned })
          answered_following session =
              record {
                on = inv.on;
                held = subst (IsHeld inv.on.claim) (sym same_last) lead.held;
                stands = λ going. (
                  subst (Follows inv.on.after inv.on.claim (following place turned)) (sym same_last) lead.follows,
                  subst (λ (q : Position). side_to_move q ≡ other (served_by inv.on.claim)) (sym same_last) lead.passed,
                  subst (λ (q : Position). IsSession place (seen turned q)) (sym same_last) session,
                );
              }

          pub has_answered : (reply : FollowReply) → reply ≡ reply_for a.holder (end_of last) answer
              → HasFollowed s (state_of (record a { now = last; place = place; turned = turned })) column reply
          has_answered reply replied =
              let to : FollowState = state_of (record a { now = last; place = place; turned = turned }) in
              let gone : HasReplied (state_of a) to (after_move a.now column) (answer_to a.book.now (following a.place a.turned) a.now column) reply = record {
                column = answer;
                next = following place turned;
                is = is;
                legal = lead.legal;
                reply_is = replied ∙ ap (λ q. reply_for a.holder (end_of q) answer) same_last;
                state = ap (λ (q : Position). state_of (record a { now = q; place = place; turned = turned })) same_last;
              } in
              subst (λ s. HasFollowed s to column reply) view
              (record { legal = legal; gone = subst (HasGoneOn (state_of a) to column reply) (sym goes_on) gone })
