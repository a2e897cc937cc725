-- Where play by a claim stands and the game goes on, the holder has a move, and each move of the other side's is answered.
use Rattle.std.proofs.Common.{◌≡◌, ◌⊎◌, ℕ, ◌<◌, Bool, true, false, ◌==◌, List, [], ◌∷◌, ◌++◌, length, map, Some, None, refl, sym, ap, ◌∙◌, subst}
use Rattle.std.proofs.Common.{inl, inr}
use Rattle.std.specs.List.{AllByRecursion}
use Rattle.std.proofs.lemmas.Bool.{both_ways, cases_eq, eq-eqb, eqb-true, false_from_ne_true}
use Rattle.game_rules.specs.Board.{below}
use Rattle.game_rules.specs.Position.{Position, other, same_side, side_to_move, has_room, has_line, end_of, is_legal, after_move, open_columns}
use Rattle.game_rules.proofs.Ends.{legal_parts, white_end, has_line_from}
use Rattle.game_rules.proofs.Lists.{Among, Among-below, Among-filter}
use Rattle.game_rules.proofs.Moves.{room_column, side_moved, cols_moved, other_other}
use Rattle.game_rules.proofs.Values.{value_at_end}
use Rattle.game_rules.specs.declared.Side.{Side}
use Rattle.game_rules.specs.declared.Side.TheVariants.{White, Black}
use Rattle.game_rules.specs.declared.End.{End}
use Rattle.game_rules.specs.declared.End.TheVariants as ends
use Rattle.plan_rules.specs.Rules.{RuleInstance}
use Rattle.plan_rules.proofs.MoreTurns.{turns_more, turn_made}
use Rattle.plan_rules.proofs.Theorems.{plan_answers, plan_kept}
use Rattle.plan_rules.proofs.Turns.{playable_room}
use Rattle.plan_rules.proofs.Plans.{plan_gives}
use Rattle.proof_text.specs.Lemma.{claim_side, claims_win, agrees, claim_of_end, Cite, Reason, ByEnd, ByOne, ByAll, ByPlan, ByMirror, Lemma}
use Rattle.proof_text.specs.Right.{Shown, Shows, IsCited, FollowsFromAll, HasReason, AreRight, goes_by_one}
use Rattle.proof_text.proofs.Sound.{AreTrue_none, true_lemmas}
use Rattle.proof_text.specs.declared.Claim.{Claim}
use Rattle.proof_text.specs.declared.Claim.TheVariants.{WhiteWins, WhiteFails, BlackWins, BlackFails}
use Rattle.follow_text.specs.Following.{served_by, seen, seen_column, Place, AtLemma, InPlan, Following, at_lemma, in_plan, own_move, own_move_at, plan_move}
use Rattle.follow_text.specs.Following.{cite_for, answer_by, answer_in, answer_to, IsHeld, IsInPlan, FollowsAt, Follows, HasMove}
use Rattle.follow_text.proofs.Seen.{seen_turn, seen_end, seen_room, seen_legal, seen_after, seen_move}
use Rattle.follow_text.proofs.Behind.{behind_it, is_plain}

-- ---- whose turn it is

other_apart : (side : Side) → side ≡ other side → ⊥
other_apart White h = cc
other_apart Black h = cc

-- one move shows a claim where the side that it serves is to move, and every move has to be looked at where the other is
pub turn_by_one : (claim : Claim) (q : Position) → goes_by_one claim q ≡ true → side_to_move q ≡ served_by claim
turn_by_one claim q h = of claim (side_to_move q) h
  where
    of : (claim : Claim) (side : Side) → agrees (claims_win claim) (same_side (claim_side claim) side) ≡ true → side ≡ served_by claim
    of WhiteWins White h = refl
    of WhiteWins Black h = cc
    of WhiteFails White h = cc
    of WhiteFails Black h = refl
    of BlackWins White h = cc
    of BlackWins Black h = refl
    of BlackFails White h = refl
    of BlackFails Black h = cc

pub turn_by_all : (claim : Claim) (q : Position) → goes_by_one claim q ≡ false → side_to_move q ≡ other (served_by claim)
turn_by_all claim q h = of claim (side_to_move q) h
  where
    of : (claim : Claim) (side : Side) → agrees (claims_win claim) (same_side (claim_side claim) side) ≡ false → side ≡ other (served_by claim)
    of WhiteWins White h = cc
    of WhiteWins Black h = refl
    of WhiteFails White h = refl
    of WhiteFails Black h = cc
    of BlackWins White h = refl
    of BlackWins Black h = cc
    of BlackFails White h = cc
    of BlackFails Black h = refl

-- ---- a plan

not_white : (e : End) → (e ≡ ends.White → ⊥) → claim_of_end WhiteFails e ≡ true
not_white ends.White h = absurd (h refl)
not_white ends.Black h = refl
not_white ends.Draw h = refl

-- White's legal move is answered by the plan, on the board as it is seen
pub plan_answered : (ws : List RuleInstance) (turned : Bool) (q : Position) (column : ℕ) (after : List Shown) → IsInPlan ws (seen turned q)
    → is_legal q column ≡ true
    → (end_of (after_move q column) ≡ None) × HasMove after WhiteFails (after_move q column) (plan_move ws turned q column)
plan_answered ws turned q column after inside legal =
    let cols = length q.columns in
    let within : column < length q.columns = room_column q column (legal_parts q column legal).1 in
    let at = seen_column turned cols column in
    let also : is_legal (seen turned q) at ≡ true = seen_legal turned q column within ∙ legal in
    let answered = plan_answers inside.start ws inside.columns (seen turned q) at inside.plan inside.reached also in
    let to = answered.reply.0 in
    let now = after_move q column in
    let there : after_move (seen turned q) at ≡ seen turned now = seen_after turned q column within in
    let going : end_of now ≡ None = sym (seen_end turned now) ∙ ap end_of (sym there) ∙ answered.going in
    let room : has_room (seen turned now) to ≡ true = ap (λ p. has_room p to) (sym there)
    ∙ playable_room (after_move (seen turned q) at) answered.reply answered.playable in
    let moved = seen_move turned now to room in
    let same : length now.columns ≡ cols = cols_moved q column in
    let own = seen_column turned cols to in
    let free : has_room now own ≡ true = ap (λ n. has_room now (seen_column turned n to)) (sym same) ∙ moved.0 in
    let next : after_move (after_move (seen turned q) at) to ≡ seen turned (after_move now own) = ap (λ p. after_move p to) there ∙ moved.1
    ∙ ap (λ n. seen turned (after_move now (seen_column turned n to))) same in
    let reached = turns_more ws inside.start (seen turned q) (after_move (after_move (seen turned q) at) to) inside.columns at inside.reached also
    (turn_made ws (seen turned q) at answered) in
    let kept = plan_kept inside.start ws (inside.columns ++ at ∷ []) (after_move (after_move (seen turned q) at) to) inside.plan reached in (
      going,
      record {
        column = own;
        next = in_plan ws turned;
        is = rw answered.is_reply refl;
        legal = rw (going, free) refl;
        held = λ e ended. not_white e (λ white. both_ways (has_line (after_move (after_move (seen turned q) at) to) White) kept.no_line
            (has_line_from (after_move (after_move (seen turned q) at) to) White
            ((white_end (after_move (after_move (seen turned q) at) to)).0
            (ap end_of next ∙ seen_end turned (after_move now own) ∙ ended ∙ ap (λ e. Some e) white))));
        follows = (
          refl,
          subst (IsInPlan ws) next (record { start = inside.start; columns = inside.columns ++ at ∷ []; plan = inside.plan; reached = reached }),
        );
      },
    )

-- ---- cites

-- the lemma cited for a column with room
cite_of : (cites : List Cite) (columns : List ℕ) (column : ℕ) (known : List Shown) (p : Position) (claim : Claim) → map (λ cite. cite.column) cites ≡ columns
    → Among column columns → AllByRecursion (IsCited known p claim) cites
    → (cite : Cite) × (cite_for cites column ≡ Some cite) × Shows known cite.lemma (after_move p column) claim
cite_of [] [] column known p claim same among cited = absurd among
cite_of [] (first ∷ columns) column known p claim same among cited = cc
cite_of (cite ∷ cites) [] column known p claim same among cited = cc
cite_of (cite ∷ cites) (first ∷ columns) column known p claim same among cited = elim (cases_eq cite.column column) [
  | inl here ↦ (cite, rw (eq-eqb cite.column column here) refl, subst (λ c. Shows known cite.lemma (after_move p c) claim) here cited.0)
  | inr apart ↦
      let later = cite_of cites columns column known p claim (let rest : map (λ cite. cite.column) cites ≡ columns = cc in rest)
      (behind among (let one : cite.column ≡ first = cc in one) apart) cited.1 in
      (later.0, rw (false_from_ne_true (cite.column == column) (λ same. apart (eqb-true cite.column column same))) later.1, later.2)
]
  where
    behind : (first ≡ column) ⊎ Among column columns → cite.column ≡ first → (cite.column ≡ column → ⊥) → Among column columns
    behind (inl here) one apart = absurd (apart (one ∙ here))
    behind (inr later) one apart = later

-- ---- lemmas

module _ (root : Position) (ls : List Lemma) (after : List Shown) (claim : Claim) (right : AreRight root [] ls after) where
  -- what is shown is held where the game has ended
  pub held_shown : (n : ℕ) (turned : Bool) (q : Position) → Shows after n (seen turned q) claim → IsHeld claim q
  held_shown n turned q shows e ended =
      ap (claim_of_end claim) (sym (value_at_end (seen turned q) e (seen_end turned q ∙ ended)))
      ∙ true_lemmas root [] ls after right AreTrue_none n (seen turned q) claim shows

  -- at a lemma the side that it serves has a move, where it is to move
  pub own_answer : (n : ℕ) (turned : Bool) (q : Position) → Shows after n (seen turned q) claim → side_to_move q ≡ served_by claim → end_of q ≡ None
      → HasMove after claim q (own_move_at ls (length q.columns) n turned)
  own_answer n turned q shows turn going =
      let behind = behind_it root ls after n turned q claim right shows in
      rw behind.is (of_reason behind.reason behind.turned behind.plain behind.right)
    where
      of_reason : (reason : Reason) (turned : Bool) → is_plain reason ≡ true → HasReason after (seen turned q) claim reason
          → HasMove after claim q (own_move (length q.columns) (Some (reason, turned)))
      of_reason ByEnd turned plain h = let none : None ≡ Some h.end = sym going ∙ sym (seen_end turned q) ∙ h.ended in absurd (cc none)
      of_reason (ByAll cites) turned plain h =
          absurd (other_apart (served_by claim) (sym turn ∙ sym (seen_turn turned q) ∙ turn_by_all claim (seen turned q) h.serves))
      of_reason (ByPlan ws) turned plain h =
          let own : White ≡ served_by WhiteFails = sym (plan_gives (seen turned q) ws h.plan).white ∙ seen_turn turned q ∙ turn ∙ ap served_by h.claimed in
          absurd (cc own)
      of_reason (ByMirror n) turned plain h = absurd (cc plain)
      of_reason (ByOne cite) turned plain h =
          let moved = seen_move turned q cite.column h.playable in
          let shows : Shows after cite.lemma (seen turned (after_move q (seen_column turned (length q.columns) cite.column))) claim =
          subst (λ p. Shows after cite.lemma p claim) moved.1 h.cited in
          record {
            column = seen_column turned (length q.columns) cite.column;
            next = at_lemma cite.lemma turned;
            is = refl;
            legal = rw (going, moved.0) refl;
            held = held_shown cite.lemma turned (after_move q (seen_column turned (length q.columns) cite.column)) shows;
            follows = shows;
          }

  -- a legal column is cited, and the lemma shows the claim of the position after it
  pub cited_for : (cites : List Cite) (turned : Bool) (q : Position) (column : ℕ) → FollowsFromAll after (seen turned q) claim cites → is_legal q column ≡ true
      → (cite : Cite) × (cite_for cites (seen_column turned (length q.columns) column) ≡ Some cite)
      × Shows after cite.lemma (seen turned (after_move q column)) claim
  cited_for cites turned q column h legal =
      let room = (legal_parts q column legal).1 in
      let within : column < length q.columns = room_column q column room in
      let at = seen_column turned (length q.columns) column in
      let free : has_room (seen turned q) at ≡ true = seen_room turned q column within ∙ room in
      let found = cite_of cites (open_columns (seen turned q)) at after (seen turned q) claim h.playable
      (Among-filter (has_room (seen turned q)) (below (length (seen turned q).columns)) at
      (Among-below (length (seen turned q).columns) at (room_column (seen turned q) at free)) free) h.cited in
      (found.0, found.1, subst (λ p. Shows after found.0.lemma p claim) (seen_after turned q column within) found.2)

  -- and it names a move, where the game goes on
  pub cited_answer : (n : ℕ) (turned : Bool) (q : Position) (column : ℕ) → Shows after n (seen turned (after_move q column)) claim
      → side_to_move q ≡ other (served_by claim) → is_legal q column ≡ true → end_of (after_move q column) ≡ None
      → HasMove after claim (after_move q column) (own_move_at ls (length q.columns) n turned)
  cited_answer n turned q column shows turn legal going =
      let within : column < length q.columns = room_column q column (legal_parts q column legal).1 in
      subst (λ cols. HasMove after claim (after_move q column) (own_move_at ls cols n turned)) (cols_moved q column)
      (own_answer n turned (after_move q column) shows (side_moved q column within ∙ ap other turn ∙ other_other (served_by claim)) going)

  -- After a legal move of the other side's the claim is held, and while the game goes on the move is answered.
  pub answered : (s : Following) (q : Position) (column : ℕ) → Follows after claim s q → side_to_move q ≡ other (served_by claim) → is_legal q column ≡ true
      → IsHeld claim (after_move q column) × (end_of (after_move q column) ≡ None → HasMove after claim (after_move q column) (answer_to ls s q column))
  answered s q column follows turn legal = of_place s.place follows
    where
      of_reason : (reason : Reason) (turned : Bool) → is_plain reason ≡ true → HasReason after (seen turned q) claim reason
          → IsHeld claim (after_move q column)
          × (end_of (after_move q column) ≡ None → HasMove after claim (after_move q column) (answer_by ls q column (Some (reason, turned))))
      of_reason ByEnd turned plain h =
          let none : None ≡ Some h.end = sym (legal_parts q column legal).0 ∙ sym (seen_end turned q) ∙ h.ended in absurd (cc none)
      of_reason (ByOne cite) turned plain h =
          absurd (other_apart (served_by claim) (sym (turn_by_one claim (seen turned q) h.serves) ∙ seen_turn turned q ∙ turn))
      of_reason (ByMirror n) turned plain h = absurd (cc plain)
      of_reason (ByPlan ws) turned plain h =
          let made = plan_answered ws turned q column after (record { start = seen turned q; columns = []; plan = h.plan; reached = refl }) legal in
          subst (λ c. IsHeld c (after_move q column)
          × (end_of (after_move q column) ≡ None → HasMove after c (after_move q column) (plan_move ws turned q column))) (sym h.claimed)
          (λ e ended. (let none : None ≡ Some e = sym made.0 ∙ ended in absurd (cc none)), λ going. made.1)
      of_reason (ByAll cites) turned plain h =
          let found = cited_for cites turned q column h legal in (
            held_shown found.0.lemma turned (after_move q column) found.2,
            λ going. rw found.1 (cited_answer found.0.lemma turned q column found.2 turn legal going),
          )

      of_place : (place : Place) → FollowsAt after claim place (seen s.turned q)
          → IsHeld claim (after_move q column)
          × (end_of (after_move q column) ≡ None → HasMove after claim (after_move q column) (answer_in ls place s.turned q column))
      of_place (AtLemma n) shows =
          let behind = behind_it root ls after n s.turned q claim right shows in
          rw behind.is (of_reason behind.reason behind.turned behind.plain behind.right)
      of_place (InPlan ws) (claimed, inside) =
          let made = plan_answered ws s.turned q column after inside legal in
          subst (λ c. IsHeld c (after_move q column)
          × (end_of (after_move q column) ≡ None → HasMove after c (after_move q column) (plan_move ws s.turned q column))) (sym claimed)
          (λ e ended. (let none : None ≡ Some e = sym made.0 ∙ ended in absurd (cc none)), λ going. made.1)
