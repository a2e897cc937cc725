-- Answers to the other side's moves: by the lemma that is cited, by a plan, and what they make of the game.
use Rattle.std.proofs.Common.{◌≡◌, ℕ, ◌+◌, ◌<◌, Bool, true, false, ◌==◌, cond, List, length, map, Option, Some, None, is_none, is_some, Result}
use Rattle.std.proofs.Common.{Ok, Err, IsOk, IfOk, IfErr, refl, sym, ap, ◌∙◌, subst}
use Rattle.std.specs.List.{find}
use Rattle.std.specs.Option.{option_map}
use Rattle.std.proofs.lemmas.Option.{same_Some, some_pair_parts}
use Rattle.game_rules.specs.Board.{Board, Square}
use Rattle.game_rules.specs.Position.{Position, board_of, other, height, side_to_move, has_room, has_line, is_full, end_of, is_legal, after_move}
use Rattle.game_rules.specs.declared.Side.{Side}
use Rattle.game_rules.specs.declared.Side.TheVariants.{White, Black}
use Rattle.game_rules.specs.declared.End.{End}
use Rattle.game_rules.specs.declared.End.TheVariants as ends
use Rattle.game_rules.specs.Value.{win_of}
use Rattle.game_rules.proofs.Ends.{legal_parts, none_for_other}
use Rattle.game_rules.proofs.Moves.{room_column, cols_moved, other_other}
use Rattle.plan_rules.specs.Rules.{RuleInstance}
use Rattle.plan_rules.specs.Plan.{is_plan, plan_reply}
use Rattle.plan_rules.specs.Refusal.{plan_refusal}
use Rattle.plan_rules.proofs.Refusals.{refusal_is}
use Rattle.plan_rules.proofs.Places.{find_map}
use Rattle.plan_rules.proofs.Turns.{playable_room}
use Rattle.proof_book.specs.PlanFault.{PlanFault}
use Rattle.proof_book.specs.Faults.{refusal_of}
use Rattle.proof_book.specs.Planned.{members}
use Rattle.board_bits.specs.Move.{moved_into}
use Rattle.board_bits.specs.declared.position.MoveFault.{MoveFault}
use Rattle.reply_player.specs.Playing.{Playing, reply_for, HasAnswered, IsRefused}
use Rattle.reply_player.specs.declared.session.Reply.{Reply}
use Rattle.proof_text.specs.Lemma.{claim_of_end, Cite, Reason, ByAll, Lemma}
use Rattle.proof_text.specs.Right.{Shown, Shows, HasReason}
use Rattle.proof_text.specs.declared.Claim.{Claim}
use Rattle.proof_text.specs.declared.Claim.TheVariants.{WhiteWins, WhiteFails, BlackWins, BlackFails}
use Rattle.proof_book.specs.Shape.{cite_of}
use Rattle.proof_book.specs.Cite.{Cite as CodeCite}
use Rattle.follow_text.specs.Following.{served_by, seen, seen_column, Following, at_lemma, in_plan, behind_mirrors, own_move_at, plan_move}
use Rattle.follow_text.specs.Following.{cite_for, move_at_cite, answer_by, answer_to, Follows, IsHeld}
use Rattle.follow_text.proofs.Seen.{seen_cols, seen_legal, seen_after, seen_move, column_within}
use Rattle.follow_text.proofs.Behind.{behind_it}
use Rattle.follow_text.proofs.Moves.{cited_for, cited_answer, answered}
use Rattle.follow_text.proofs.Games.{turn_passed, turn_given}
use Rattle.proof_player.specs.Playing.{StandsAt, CitesAll}
use Rattle.proof_player.specs.Places.{CanAnswerAt, column_in}

-- ---- the lemma that is cited

cite_seen : (cites : List CodeCite) (column : ℕ)
    → cite_for (map cite_of cites) column ≡ option_map cite_of (find (λ (cite : CodeCite). cite.column == column) cites)
cite_seen cites column = find_map (λ (cite : Cite). cite.column == column) cite_of cites

some_mapped : {X Y : Type 0} (f : X → Y) (found : Option X) (y : Y) → option_map f found ≡ Some y → is_some found ≡ true
some_mapped f None y h = absurd (cc h)
some_mapped f (Some x) y h = refl

pub mapped_some : {X Y : Type 0} (f : X → Y) (found : Option X) → is_some (option_map f found) ≡ true → is_some found ≡ true
mapped_some f None h = absurd (cc h)
mapped_some f (Some x) h = refl

pub is_cited : (ls : List Lemma) (cites : List CodeCite) (turned : Bool) (q : Position) (column : ℕ) → CitesAll ls (map cite_of cites) turned q column
    → is_some (find (λ (cite : CodeCite). cite.column == seen_column turned (length q.columns) column) cites) ≡ true
is_cited ls cites turned q column is =
    let found = cited_for is.root ls is.after is.claim is.right (map cite_of cites) turned q column is.follows is.legal in
    some_mapped cite_of _ found.0 (sym (cite_seen cites (seen_column turned (length q.columns) column)) ∙ found.1)

-- The lemma cited for the column stands at the position after the move, and the answer is the move that it names.
pub record IsAnsweredBy (ls : List Lemma) (cites : List CodeCite) (turned : Bool) (q : Position) (column n : ℕ) : Type 0 where
  pub stands : StandsAt ls n turned (after_move q column)
  pub some : is_some (own_move_at ls (length (after_move q column).columns) n turned) ≡ true
  pub same : answer_by ls q column (Some (ByAll (map cite_of cites), turned)) ≡ own_move_at ls (length (after_move q column).columns) n turned

pub by_cite : (ls : List Lemma) (cites : List CodeCite) (turned : Bool) (q : Position) (column : ℕ) (cite : CodeCite)
    → CitesAll ls (map cite_of cites) turned q column
    → find (λ (cite : CodeCite). cite.column == seen_column turned (length q.columns) column) cites ≡ Some cite
    → IsAnsweredBy ls cites turned q column cite.lemma
by_cite ls cites turned q column cite is first =
    let found = cited_for is.root ls is.after is.claim is.right (map cite_of cites) turned q column is.follows is.legal in
    let seen_there : cite_for (map cite_of cites) (seen_column turned (length q.columns) column) ≡ Some (cite_of cite) =
    cite_seen cites (seen_column turned (length q.columns) column) ∙ ap (option_map cite_of) first in
    let same : found.0 ≡ cite_of cite = same_Some found.0 (cite_of cite) (sym found.1 ∙ seen_there) in
    let shows : Shows is.after cite.lemma (seen turned (after_move q column)) is.claim =
    subst (λ (k : Cite). Shows is.after k.lemma (seen turned (after_move q column)) is.claim) same found.2 in
    let has = cited_answer is.root ls is.after is.claim is.right cite.lemma turned q column shows is.turn is.legal is.going in
    let cols : length (after_move q column).columns ≡ length q.columns = cols_moved q column in
    record {
      stands = record { root = is.root; after = is.after; claim = is.claim; right = is.right; shows = shows };
      some = ap (λ n. is_some (own_move_at ls n cite.lemma turned)) cols ∙ ap is_some has.is;
      same = ap (move_at_cite ls (length q.columns) turned) seen_there ∙ ap (λ n. own_move_at ls n cite.lemma turned) (sym cols);
    }

-- the reason at which play stands is right there
pub reason_there : (ls : List Lemma) (n : ℕ) (turned board : Bool) (q : Position) (column : ℕ) (reason : Reason)
    → (can : CanAnswerAt ls (at_lemma n turned) q column) → behind_mirrors ls n turned ≡ Some (reason, board)
    → HasReason can.after (seen board q) can.claim reason
reason_there ls n turned board q column reason can is =
    let behind = behind_it can.root ls can.after n turned q can.claim can.right can.follows in
    let parts = some_pair_parts behind.reason reason behind.turned board (sym behind.is ∙ is) in
    subst (λ b. HasReason can.after (seen b q) can.claim reason) parts.1
    (subst (HasReason can.after (seen behind.turned q) can.claim) parts.0 behind.right)

-- ---- a plan

pub plan_accepted : {X : Type 0} (p : Position) (ws : List RuleInstance) (result : Result X PlanFault) → refusal_of result ≡ plan_refusal p ws
    → is_plan p ws ≡ true → IsOk result
plan_accepted p ws result told is = passes result (ap is_none told ∙ refusal_is p ws ∙ is)
  where
    passes : {X : Type 0} (result : Result X PlanFault) → is_none (refusal_of result) ≡ true → IsOk result
    passes (Ok x) h = refl
    passes (Err fault) h = absurd (cc h)

-- a legal move is answered by a session
session_answers : (old new : Playing) (column : ℕ) (result : Result Reply MoveFault) → IfErr result (IsRefused old new column)
    → is_legal old.stands column ≡ true → IsOk result
session_answers old new column (Ok reply) refused legal = refl
session_answers old new column (Err fault) refused legal =
    let parts = legal_parts old.stands column legal in
    let made : moved_into old.stands column ≡ Ok (after_move old.stands column) = rw (parts.0, parts.1) refl in absurd (cc (sym made ∙ refused.1))

pub column_replied : (end : Option End) (column : ℕ) → column_in (reply_for end column) ≡ column
column_replied None column = refl
column_replied (Some ends.White) column = refl
column_replied (Some ends.Black) column = refl
column_replied (Some ends.Draw) column = refl

-- what a session's answer is on the board as it lies
pub record IsSeen (old new : Playing) (turned : Bool) (q : Position) (column to : ℕ) : Type 0 where
  pub within : to < length q.columns
  pub answer : plan_move (members old.plan) turned q column ≡ Some (seen_column turned (length q.columns) to, in_plan (members old.plan) turned)
  pub stands : new.stands ≡ seen turned (after_move (after_move q column) (seen_column turned (length q.columns) to))

answer_seen : (old new : Playing) (turned : Bool) (q : Position) (column : ℕ) (reply : Reply) → old.stands ≡ seen turned q → is_legal q column ≡ true
    → HasAnswered old new (seen_column turned (length q.columns) column) reply → IsSeen old new turned q column (column_in reply)
answer_seen old new turned q column reply stands legal has =
    let cols = length q.columns in
    let ws = members old.plan in
    let within : column < cols = room_column q column (legal_parts q column legal).1 in
    let at = seen_column turned cols column in
    let to = has.answered.reply.0 in
    let now = after_move q column in
    let there : after_move old.stands at ≡ seen turned now = ap (λ p. after_move p at) stands ∙ seen_after turned q column within in
    let room : has_room (seen turned now) to ≡ true = ap (λ p. has_room p to) (sym there)
    ∙ playable_room (after_move old.stands at) has.answered.reply has.answered.playable in
    let same : length now.columns ≡ cols = cols_moved q column in
    let low : to < cols = subst (λ n. to < n) (seen_cols turned now ∙ same) (room_column (seen turned now) to room) in
    let next : new.stands ≡ seen turned (after_move now (seen_column turned cols to)) = has.next ∙ ap (λ p. after_move p to) there
    ∙ (seen_move turned now to room).1 ∙ ap (λ n. seen turned (after_move now (seen_column turned n to))) same in
    let told : plan_move ws turned q column ≡ Some (seen_column turned cols to, in_plan ws turned) =
    ap (λ p. option_map (λ (s : Square). (seen_column turned cols s.0, in_plan ws turned)) (plan_reply ws (after_move p at) (at, height p at + 1))) (sym stands)
    ∙ ap (option_map (λ (s : Square). (seen_column turned cols s.0, in_plan ws turned))) has.answered.is_reply in
    let is : to ≡ column_in reply = sym (column_replied (end_of new.stands) to) ∙ ap column_in (sym has.reply_is) in
    subst (IsSeen old new turned q column) is (record { within = low; answer = told; stands = next })

-- a session takes a column as it is seen
session_column : (turned : Bool) (q stands : Position) (column : ℕ) → stands ≡ seen turned q → is_legal q column ≡ true
    → (seen_column turned (length q.columns) column < length stands.columns)
    × (is_legal stands (seen_column turned (length q.columns) column) ≡ true)
session_column turned q stands column is legal =
    let within : column < length q.columns = room_column q column (legal_parts q column legal).1 in
    let at = seen_column turned (length q.columns) column in (
      subst (λ (p : Position). at < length p.columns) (sym is)
          (subst (λ n. at < n) (sym (seen_cols turned q)) (column_within turned (length q.columns) column within)),
      ap (λ p. is_legal p at) is ∙ seen_legal turned q column within ∙ legal,
    )

-- The call: a session is asked about the column as it is seen, by the board's size, and its reply is turned back.
module _ (old new : Playing) (turned : Bool) (q : Position) (column : ℕ) (stands : old.stands ≡ seen turned q) (legal : is_legal q column ≡ true)
    (size : Board) (sized : size ≡ board_of q) (asked : ℕ) (asked_is : asked ≡ seen_column turned size.cols column)
    (result : Result Reply MoveFault) where
  on_board : (to : ℕ) → seen_column turned size.cols to ≡ seen_column turned (length q.columns) to
  on_board to = ap (λ (b : Board). seen_column turned b.cols to) sized

  pub is_replied : IfErr result (IsRefused old new asked) → IsOk result
  is_replied refused =
      session_answers old new asked result refused
      (ap (is_legal old.stands) (asked_is ∙ on_board column) ∙ (session_column turned q old.stands column stands legal).1)

  module _ (reply : Reply) (is : result ≡ Ok reply) (answers : IfOk result (HasAnswered old new asked)) (to : ℕ) (to_is : to ≡ column_in reply) where
    is_seen : IsSeen old new turned q column to
    is_seen =
        subst (IsSeen old new turned q column) (sym to_is) (answer_seen old new turned q column reply stands legal
        (subst (λ n. HasAnswered old new n reply) (asked_is ∙ on_board column) (subst (λ r. IfOk r (HasAnswered old new asked)) is answers)))

    pub within_size : to < size.cols
    within_size = subst (λ (b : Board). to < b.cols) (sym sized) is_seen.within

    module _ (back : ℕ) (back_is : back ≡ seen_column turned size.cols to) where
      pub reply_told : plan_move (members old.plan) turned q column ≡ Some (back, in_plan (members old.plan) turned)
      reply_told = is_seen.answer ∙ ap (λ n. Some (n, in_plan (members old.plan) turned)) (sym (back_is ∙ on_board to))

      pub session_stands : new.stands ≡ seen turned (after_move (after_move q column) back)
      session_stands = is_seen.stands ∙ ap (λ n. seen turned (after_move (after_move q column) n)) (sym (back_is ∙ on_board to))

-- ---- the game

no_end : (q : Position) (side : Side) → has_line q side ≡ false → (e : End) → end_of q ≡ Some e → e ≡ win_of side → ⊥
no_end q side none e ended same = of_side side none (ended ∙ ap (λ e. Some e) same)
  where
    of_white : (white black full : Bool) → white ≡ false → cond white (Some ends.White) (cond black (Some ends.Black) (cond full (Some ends.Draw) None))
        ≡ Some ends.White → ⊥
    of_white true black full none h = cc
    of_white false true full none h = cc
    of_white false false true none h = cc
    of_white false false false none h = cc

    of_black : (white black full : Bool) → black ≡ false → cond white (Some ends.White) (cond black (Some ends.Black) (cond full (Some ends.Draw) None))
        ≡ Some ends.Black → ⊥
    of_black true black full none h = cc
    of_black false true full none h = cc
    of_black false false true none h = cc
    of_black false false false none h = cc

    of_side : (side : Side) → has_line q side ≡ false → end_of q ≡ Some (win_of side) → ⊥
    of_side White none h = of_white (has_line q White) (has_line q Black) (is_full q) none h
    of_side Black none h = of_black (has_line q White) (has_line q Black) (is_full q) none h

-- after the other side's move the game has ended only where the board is full
pub ended_full : (claim : Claim) (q : Position) (column : ℕ) (e : End) → IsHeld claim (after_move q column) → side_to_move q ≡ other (served_by claim)
    → is_legal q column ≡ true → end_of (after_move q column) ≡ Some e → e ≡ ends.Draw
ended_full claim q column e held turn legal ended =
    let none : has_line (after_move q column) (served_by claim) ≡ false =
    ap (has_line (after_move q column)) (sym (ap other turn ∙ other_other (served_by claim))) ∙ none_for_other q column legal in
    of_claim claim e (held e ended) (no_end (after_move q column) (served_by claim) none e ended)
  where
    of_claim : (claim : Claim) (e : End) → claim_of_end claim e ≡ true → (e ≡ win_of (served_by claim) → ⊥) → e ≡ ends.Draw
    of_claim WhiteWins ends.White h not_own = absurd (not_own refl)
    of_claim WhiteWins ends.Black h not_own = absurd (cc h)
    of_claim WhiteWins ends.Draw h not_own = refl
    of_claim WhiteFails ends.White h not_own = absurd (cc h)
    of_claim WhiteFails ends.Black h not_own = absurd (not_own refl)
    of_claim WhiteFails ends.Draw h not_own = refl
    of_claim BlackWins ends.White h not_own = absurd (cc h)
    of_claim BlackWins ends.Black h not_own = absurd (not_own refl)
    of_claim BlackWins ends.Draw h not_own = refl
    of_claim BlackFails ends.White h not_own = absurd (not_own refl)
    of_claim BlackFails ends.Black h not_own = absurd (cc h)
    of_claim BlackFails ends.Draw h not_own = refl

-- while the game goes on there is an answer
pub is_answered : {X : Type 0} (f : X → ℕ × Following) (found : Option X) (ls : List Lemma) (s : Following) (q : Position) (column : ℕ)
    → CanAnswerAt ls s q column → option_map f found ≡ answer_to ls s q column → is_some found ≡ true
is_answered f found ls s q column can is =
    let has = (answered can.root ls can.after can.claim can.right s q column can.follows can.turn can.legal).1 can.going in
    some_mapped f found (has.column, has.next) (is ∙ has.is)

-- what an answer leads to
pub record Leads (after : List Shown) (claim : Claim) (now : Position) (column : ℕ) (next : Following) : Type 0 where
  pub legal : is_legal now column ≡ true
  pub held : IsHeld claim (after_move now column)
  pub follows : Follows after claim next (after_move now column)
  pub passed : side_to_move (after_move now column) ≡ other (served_by claim)

pub leads : (ls : List Lemma) (s : Following) (q : Position) (column answer : ℕ) (next : Following) → (can : CanAnswerAt ls s q column)
    → answer_to ls s q column ≡ Some (answer, next) → Leads can.after can.claim (after_move q column) answer next
leads ls s q column answer next can is =
    let now = after_move q column in
    let has = (answered can.root ls can.after can.claim can.right s q column can.follows can.turn can.legal).1 can.going in
    let parts = some_pair_parts has.column answer has.next next (sym has.is ∙ is) in
    subst (Leads can.after can.claim now answer) parts.1 (subst (λ n. Leads can.after can.claim now n has.next) parts.0
    (record {
      legal = has.legal;
      held = has.held;
      follows = has.follows;
      passed = turn_passed can.claim now has.column (turn_given can.claim q column can.turn can.legal) has.legal;
    }))
