-- Turns that a plan answers are those of the duel.
use Rattle.std.proofs.Common.{◌≡◌, ℕ, ◌+◌, Bool, true, false, ◌&&◌, cond, List, [], ◌∷◌, ◌++◌, Option, Some, None, option_and_then, is_none, is_some, Ok, Err}
use Rattle.std.proofs.Common.{refl, sym, ap, ◌∙◌, subst, inl, inr}
use Rattle.std.specs.Option.{option_map_or}
use Rattle.std.proofs.lemmas.Bool.{cases_Bool, and_parts}
use Rattle.std.proofs.lemmas.Option.{same_Some}
use Rattle.game_rules.specs.Board.{Square}
use Rattle.game_rules.specs.Position.{Position, height, has_room, lowest_empty, end_of, is_legal, after_move}
use Rattle.game_rules.specs.declared.End.{End}
use Rattle.game_rules.proofs.Ends.{legal_parts}
use Rattle.plan_rules.specs.Rules.{RuleInstance}
use Rattle.plan_rules.specs.Plan.{is_plan, plan_reply, after_turn, after_turns, duel, is_playable_list}
use Rattle.plan_rules.proofs.MoreTurns.{turns_more, turn_made}
use Rattle.plan_rules.proofs.Theorems.{plan_answers, plan_kept}
use Rattle.rule_compat.specs.Planned.{Planned, members, IsReached, HasMoved}
use Rattle.board_bits.specs.Move.{moved_into}
use Rattle.board_bits.specs.declared.position.MoveFault.TheVariants.{GameOver, ColumnFull}
use Rattle.reply_player.specs.Playing.{reply_for, last_of, EndsDuel, IsUnderWay, HasAnswered}

-- a duel begins at its position
begins : (ws : List RuleInstance) (q : Position) (columns : List ℕ) → (rest : List Position) × (duel ws q columns ≡ q ∷ rest)
begins ws q [] = ([], refl)
begins ws q (column ∷ columns) = of_legal (is_legal q column) (after_move q column ∷ option_map_or (λ next. duel ws next columns) (after_turn ws q column) [])
  where
    of_legal : (legal : Bool) (more : List Position) → (rest : List Position) × (cond legal (q ∷ more) (q ∷ []) ≡ q ∷ rest)
    of_legal true more = (more, refl)
    of_legal false more = ([], refl)

-- a turn that is made leads a duel to the duel from the position after it
pub last_later : (ws : List RuleInstance) (q next : Position) (column : ℕ) (columns : List ℕ) → is_legal q column ≡ true → after_turn ws q column ≡ Some next
    → last_of (duel ws q (column ∷ columns)) ≡ last_of (duel ws next columns)
last_later ws q next column columns legal turn =
    let rest = begins ws next columns in
    rw (legal, turn, rest.1) refl

-- turns from a position on end its duel
turns_end : (ws : List RuleInstance) (q r : Position) (columns : List ℕ) → after_turns ws q columns ≡ Some r
    → (is_playable_list ws q columns ≡ true) × (last_of (duel ws q columns) ≡ Some r)
turns_end ws q r [] turns = (refl, turns)
turns_end ws q r (column ∷ columns) turns = elim (cases_Bool (is_legal q column)) [
  | inl legal ↦ of_turn (after_turn ws q column) refl legal (rw legal at turns) (λ next later. turns_end ws next r columns later)
  | inr illegal ↦ absurd (cc (rw illegal at turns))
]
  where
    of_turn : (turn : Option Position) → after_turn ws q column ≡ turn → is_legal q column ≡ true
        → option_and_then (λ next. after_turns ws next columns) (after_turn ws q column) ≡ Some r
        → ((next : Position) → after_turns ws next columns ≡ Some r → (is_playable_list ws next columns ≡ true) × (last_of (duel ws next columns) ≡ Some r))
        → (is_playable_list ws q (column ∷ columns) ≡ true) × (last_of (duel ws q (column ∷ columns)) ≡ Some r)
    of_turn None e legal later ends = absurd (cc (rw e at later))
    of_turn (Some next) e legal later ends =
        let behind = ends next (rw e at later) in
        (rw (legal, e) behind.0, last_later ws q next column columns legal e ∙ behind.1)

-- by a plan the end of each duel is reached by turns
ends_turns : (p : Position) (ws : List RuleInstance) → is_plan p ws ≡ true → (before : List ℕ) (q r : Position) (columns : List ℕ)
    → after_turns ws p before ≡ Some q
    → is_playable_list ws q columns ≡ true → last_of (duel ws q columns) ≡ Some r → after_turns ws q columns ≡ Some r
ends_turns p ws is before q r [] reached playable last = last
ends_turns p ws is before q r (column ∷ columns) reached playable last =
    let legal : is_legal q column ≡ true = (and_parts (is_legal q column) _ playable).0 in
    let next = after_move (after_move q column) (plan_answers p ws before q column is reached legal).reply.0 in
    let turn : after_turn ws q column ≡ Some next = turn_made ws q column (plan_answers p ws before q column is reached legal) in
    let later = ends_turns p ws is (before ++ column ∷ []) next r columns (turns_more ws p q next before column reached legal turn)
    (rw turn at (and_parts (is_legal q column) _ playable).1) (sym (last_later ws q next column columns legal turn) ∙ last) in
    rw (legal, turn) later

-- ---- what a session says

pub reached_ends : (plan : Planned) (q : Position) → IsReached plan q → (columns : List ℕ) × EndsDuel plan columns q
reached_ends plan q reached = (reached.columns, turns_end (members plan) plan.at q reached.columns reached.leads)

-- a legal move and the plan's answer
pub answer_made : (plan : Planned) (q : Position) (column : ℕ) (reply : Square) → IsUnderWay plan q → is_legal q column ≡ true
    → plan_reply (members plan) (after_move q column) (column, height q column + 1) ≡ Some reply
    → HasAnswered (record { plan = plan; stands = q }) (record { plan = plan; stands = after_move (after_move q column) reply.0 }) column
    (reply_for (end_of (after_move (after_move q column) reply.0)) reply.0)
answer_made plan q column reply under legal is_reply =
    let ws = members plan in
    let before = under.reached.columns in
    let answered = plan_answers plan.at ws before q column under.is_one under.reached.leads legal in
    let same : answered.reply ≡ reply = same_Some answered.reply reply (sym answered.is_reply ∙ is_reply) in
    let next = after_move (after_move q column) answered.reply.0 in
    let turn : after_turn ws q column ≡ Some next = turn_made ws q column answered in
    let leads = turns_more ws plan.at q next before column under.reached.leads legal turn in
    let P : Square → Type 0 = λ reply. HasAnswered (record { plan = plan; stands = q })
    (record { plan = plan; stands = after_move (after_move q column) reply.0 }) column
    (reply_for (end_of (after_move (after_move q column) reply.0)) reply.0) in
    subst P same (record {
      same_plan = refl;
      legal = legal;
      answered = answered;
      next = refl;
      turn = turn;
      reply_is = refl;
      no_line = (plan_kept plan.at ws (before ++ column ∷ []) next under.is_one leads).no_line;
      follows = λ columns ends.
          let reached = ends_turns plan.at ws under.is_one [] plan.at q columns refl ends.0 ends.1 in
          turns_end ws plan.at next (columns ++ column ∷ []) (turns_more ws plan.at q next columns column reached legal turn);
    })

-- ---- what a move into a column says

-- the square of a legal move
legal_square : (q : Position) (column : ℕ) (last : Square) → is_legal q column ≡ true → lowest_empty q column ≡ Some last → (column, height q column + 1) ≡ last
legal_square q column last legal lowest = same_Some (column, height q column + 1) last (sym (rw (legal_parts q column legal).1 refl) ∙ lowest)

-- White's man stands on the lowest empty square of the column
pub moved_to : (plan : Planned) (q now : Position) (column : ℕ) (last : Square) → IsReached plan q → is_legal q column ≡ true → now ≡ after_move q column
    → lowest_empty q column ≡ Some last → HasMoved plan now last
moved_to plan q now column last reached legal is lowest =
    subst (HasMoved plan now) (legal_square q column last legal lowest) (record { earlier = q; reached = reached; legal = legal; row = refl; now_is = is })

-- what was played after it
pub answers : (plan : Planned) (q now next : Position) (column : ℕ) (last reply : Square) → IsUnderWay plan q → is_legal q column ≡ true
    → now ≡ after_move q column
    → lowest_empty q column ≡ Some last → plan_reply (members plan) now last ≡ Some reply → next ≡ after_move now reply.0
    → HasAnswered (record { plan = plan; stands = q }) (record { plan = plan; stands = next }) column (reply_for (end_of next) reply.0)
answers plan q now next column last reply under legal is lowest is_reply next_is =
    let from_now : plan_reply (members plan) (after_move q column) (column, height q column + 1) ≡ Some reply =
    ap (λ now. plan_reply (members plan) now (column, height q column + 1)) (sym is)
    ∙ ap (plan_reply (members plan) now) (legal_square q column last legal lowest) ∙ is_reply in
    let P : Position → Type 0 = λ next. HasAnswered (record { plan = plan; stands = q }) (record { plan = plan; stands = next }) column
    (reply_for (end_of next) reply.0) in
    subst P (ap (λ now. after_move now reply.0) (sym is) ∙ sym next_is) (answer_made plan q column reply under legal from_now)
