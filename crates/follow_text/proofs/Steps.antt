-- Following goes line by line, and never lacks an answer.
use Rattle.std.proofs.Common.{◌≡◌, ◌≢◌, ℕ, ◌+◌, Bool, true, false, cond, List, [], ◌++◌, length, Option, Some, None, refl, sym, ◌∙◌, subst}
use Rattle.std.proofs.lemmas.Option.{same_Some}
use Rattle.game_rules.specs.Position.{Position, other, same_side, side_to_move, end_of, is_legal, after_move}
use Rattle.game_rules.proofs.Ends.{legal_parts}
use Rattle.game_rules.proofs.Moves.{same_side_is}
use Rattle.game_rules.specs.declared.Side.{Side}
use Rattle.game_rules.specs.declared.Side.TheVariants.{White, Black}
use Rattle.game_rules.specs.declared.End.{End}
use Rattle.proof_text.specs.Lemma.{claim_for, claims_win, Lemma}
use Rattle.proof_text.specs.Right.{Shown, Shows, AreRight, IsVerdict}
use Rattle.proof_text.specs.declared.Claim.{Claim}
use Rattle.proof_text.specs.declared.Claim.TheVariants.{WhiteFails, BlackFails}
use Rattle.proof_text.specs.declared.Verdict.{Verdict}
use Rattle.proof_text.specs.declared.Verdict.TheVariants.{Win, Loss, Draw, Unknown}
use Rattle.play_text.specs.Play.{AllPlayed, NoReply, behind}
use Rattle.play_text.proofs.Steps.{play_stops, play_more}
use Rattle.play_text.proofs.Turned.{HasTurn, played_in_turns}
use Rattle.follow_text.specs.Following.{served_by, Following, at_lemma, own_move_at, Follows}
use Rattle.follow_text.specs.Follow.{over_text, answer_text, follow_turn, follow_from, follow_at, named_for, is_won}
use Rattle.follow_text.proofs.Moves.{own_answer, answered}
use Rattle.follow_text.proofs.Games.{names_move, names_none, turn_passed, turn_given}

-- ---- no answer is wanting

-- what is known of a turn: the line that is written, and where play goes on
abbrev pub Makes : List Lemma → Side → Following × Position → ℕ → List ℕ → Following × Position → Type 0
Makes ls holder x column line next = follow_turn ls holder x column ≡ Some (line, next)

module _ (root : Position) (ls : List Lemma) (after : List Shown) (claim : Claim) (right : AreRight root [] ls after) where
  -- play by the claim stands here while the game goes on, and the other side is to move
  abbrev pub Stands : Following → Position → Type 0
  Stands s q = end_of q ≡ None → Follows after claim s q × (side_to_move q ≡ other (served_by claim))

  -- a legal move is answered, where it doesn't end the game
  pub answered_by : (holder : Side) (x : Following × Position) (column : ℕ) → Stands x.0 x.1 → is_legal x.1 column ≡ true
      → HasTurn (follow_turn ls holder) (Makes ls holder) (λ x. Stands x.0 x.1) x column
  answered_by holder (s, q) column stands legal = of_end (end_of (after_move q column)) refl
    where
      of_end : (end : Option End) → end_of (after_move q column) ≡ end
          → HasTurn (follow_turn ls holder) (Makes ls holder) (λ x. Stands x.0 x.1) (s, q) column
      of_end (Some e) ended = record {
        line = over_text holder q column;
        next = (s, after_move q column);
        made = rw ended refl;
        fact = rw ended refl;
        kept = λ going. let none : None ≡ Some e = sym going ∙ ended in absurd (cc none);
      }
      of_end None going =
          let here = stands (legal_parts q column legal).0 in
          let has = (answered root ls after claim right s q column here.0 here.1 legal).1 going in
          record {
            line = answer_text holder q column has.column;
            next = (has.next, after_move (after_move q column) has.column);
            made = rw (going, has.is) refl;
            fact = rw (going, has.is) refl;
            kept = λ on. (has.follows, turn_passed claim (after_move q column) has.column (turn_given claim q column here.1 legal) has.legal);
          }

  never_lacks_from : (lines : List (List ℕ)) (holder : Side) (s : Following) (q : Position) (at : ℕ) → Stands s q
      → (follow_from ls holder s q at lines).end ≢ NoReply
  never_lacks_from lines holder s q at stands =
      (played_in_turns (λ x. x.1) (follow_turn ls holder) (Makes ls holder) (λ x. Stands x.0 x.1) (answered_by holder) (s, q) at lines stands).answered

  pub never_lacks : (holder : Side) (n at : ℕ) (lines : List (List ℕ)) → Shows after n root claim → (follow_at ls holder root n at lines).end ≢ NoReply
  never_lacks holder n at lines shows = of_found (own_move_at ls (length root.columns) n false) refl
    where
      of_found : (found : Option (ℕ × Following)) → own_move_at ls (length root.columns) n false ≡ found → (follow_at ls holder root n at lines).end ≢ NoReply
      of_found None is = rw is (never_lacks_from lines holder (at_lemma n false) root at
          (λ going. (shows, names_none root ls after claim right n false root shows is going)))
      of_found (Some found) is =
          let turn = names_move root ls after claim right n false root found shows is in
          let has = own_answer root ls after claim right n false root shows turn.1 turn.0 in
          rw has.is (never_lacks_from lines holder has.next (after_move root has.column) at
          (λ on. (has.follows, turn_passed claim root has.column turn.1 has.legal)))

-- ---- which lemma a verdict names

-- the claim that a side wins serves this side alone
win_serves : (root : Position) (after : List Shown) (holder side : Side) (m n : ℕ) (own : Bool) → same_side holder side ≡ own
    → Shows after m root (claim_for side true) → cond own (Some m) None ≡ Some n
    → (claim : Claim) × Shows after n root claim × (served_by claim ≡ holder) × (claims_win claim ≡ true)
win_serves root after holder side m n false e shows named = absurd (cc named)
win_serves root after holder side m n true e shows named = (
  claim_for side true,
  subst (λ k. Shows after k root (claim_for side true)) (same_Some m n named) shows,
  serves side ∙ sym (same_side_is holder side e),
  wins side,
)
  where
    wins : (side : Side) → claims_win (claim_for side true) ≡ true
    wins White = refl
    wins Black = refl

    serves : (side : Side) → served_by (claim_for side true) ≡ side
    serves White = refl
    serves Black = refl

-- a lemma that a verdict names for a side shows a claim of the root that serves it
pub named_serves : (root : Position) (after : List Shown) (holder : Side) (v : Verdict) (n : ℕ) → IsVerdict root after v
    → named_for holder (side_to_move root) v ≡ Some n → (claim : Claim) × Shows after n root claim × (served_by claim ≡ holder) × (claims_win claim ≡ is_won v)
named_serves root after holder (Win m) n verdict named =
    win_serves root after holder (side_to_move root) m n (same_side holder (side_to_move root)) refl verdict named
named_serves root after holder (Loss m) n verdict named =
    win_serves root after holder (other (side_to_move root)) m n (same_side holder (other (side_to_move root))) refl verdict named
named_serves root after White (Draw l m) n verdict named = (BlackFails, subst (λ k. Shows after k root BlackFails) (same_Some m n named) verdict.1, refl, refl)
named_serves root after Black (Draw l m) n verdict named = (WhiteFails, subst (λ k. Shows after k root WhiteFails) (same_Some l n named) verdict.0, refl, refl)
named_serves root after holder Unknown n verdict named = absurd (cc named)

-- ---- lines behind lines

pub follow_stops : (ls : List Lemma) (holder : Side) (s : Following) (q : Position) (at : ℕ) (xs ys : List (List ℕ))
    → (follow_from ls holder s q at xs).end ≢ AllPlayed → follow_from ls holder s q at (xs ++ ys) ≡ follow_from ls holder s q at xs
follow_stops ls holder s q at xs ys stops = play_stops (λ x. x.1) (follow_turn ls holder) (s, q) at xs ys stops

pub follow_more : (ls : List Lemma) (holder : Side) (s : Following) (q : Position) (at : ℕ) (xs ys : List (List ℕ))
    → (follow_from ls holder s q at xs).end ≡ AllPlayed
    → (next : Following) × (r : Position)
    × (follow_from ls holder s q at (xs ++ ys) ≡ behind (follow_from ls holder s q at xs).lines (follow_from ls holder next r (at + length xs) ys))
follow_more ls holder s q at xs ys all =
    let more = play_more (λ x. x.1) (follow_turn ls holder) (s, q) at xs ys all in
    (more.0.0, more.0.1, more.1)
