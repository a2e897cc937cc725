-- The check of a threat part by part, and White's answers by it.
use Rattle.std.proofs.Common.{◌≡◌, ℕ, suc, ◌+◌, ◌-◌, ◌<◌, Bool, true, false, List, [], ◌∷◌, ◌++◌, Option, Some, None, is_none, ok_or, unwrap_or, Ok}
use Rattle.std.proofs.Common.{refl, sym, ap, ◌∙◌, subst, inl, inr, arith}
use Rattle.std.specs.List.{find, range_with_len}
use Rattle.std.specs.Option.{option_or}
use Rattle.std.proofs.lemmas.Bool.{cases_Bool, cond-true, cond-false}
use Rattle.std.proofs.lemmas.Option.{option_and_then_some}
use Rattle.game_rules.specs.Board.{Square, is_board}
use Rattle.game_rules.specs.Position.{Position, board_of, height, has_room, lowest_empty, is_legal, after_move}
use Rattle.game_rules.specs.Squares.{is_playable}
use Rattle.game_rules.specs.Groups.{Group}
use Rattle.plan_rules.specs.Squares.{above}
use Rattle.plan_rules.proofs.Turns.{playable_parts, playable_room}
use Rattle.odd_rules.specs.Threat.{Pair, target, is_threat}
use Rattle.odd_rules.specs.Duel.{partner, answer_of, top_of, answered_move, after_turn, after_turns, IsAnswered}
use Rattle.odd_rules.specs.Refusal.{position_refusal, pairs_refusal, target_refusal}
use Rattle.odd_rules.proofs.Refusals.{refusal_is}
use Rattle.odd_rules.proofs.Tests.{threat_gives}
use Rattle.odd_rules.proofs.Theorems.{threat_answers}
use Rattle.odd_rules.proofs.Wins.{turn_is}
use Rattle.threat_rules.specs.Threatened.{Threatened, threat_with, IsReached, HasMoved}

-- ---- the check

pub ok_is : {X E : Type 0} (o : Option X) (e : E) (x : X) → ok_or o e ≡ Ok x → o ≡ Some x
ok_is None e x h = absurd (cc h)
ok_is (Some y) e x h = cc h

-- what no part refuses is a threat
pub accepted : (p : Position) (g : Group) (pairs : List Pair) (t : Square) → position_refusal p ≡ None → target p g ≡ Some t → pairs_refusal p pairs t ≡ None
    → is_threat p g pairs ≡ true
accepted p g pairs t fair is none =
    sym (refusal_is p g pairs)
    ∙ ap (λ o. is_none (option_or o (target_refusal p pairs (target p g)))) fair
    ∙ ap (λ o. is_none (target_refusal p pairs o)) is
    ∙ ap is_none none

-- a search over numbers that goes on behind one that fails
pub range_next : (test : ℕ → Bool) (i n : ℕ) → i < n → test i ≡ false
    → find test (range_with_len (i + 1) (n - (i + 1))) ≡ find test (range_with_len i (n - i))
range_next test i n within fails =
    sym (cond-false (test i) (Some i) (find test (range_with_len (i + 1) (n - (i + 1)))) fails)
    ∙ ap (λ k. find test (range_with_len i k)) more
  where
    more : suc (n - (i + 1)) ≡ n - i
    more = omega arith

-- ---- answers

-- the square on top of a column's men
pub on_top : (q : Position) (u : Square) → is_playable q u ≡ true → lowest_empty q u.0 ≡ Some u
on_top q u playable =
    cond-true (has_room q u.0) (Some (u.0, height q u.0 + 1)) None (playable_room q u playable)
    ∙ ap (λ r. Some (u.0, r)) (sym (playable_parts q u playable).1)

-- a turn behind some turns
turns_more : (pairs : List Pair) (p q r : Position) (columns : List ℕ) (column : ℕ) → after_turns pairs p columns ≡ Some q → is_legal q column ≡ true
    → after_turn pairs q column ≡ Some r → after_turns pairs p (columns ++ column ∷ []) ≡ Some r
turns_more pairs p q r [] column reached legal turn =
    let same : p ≡ q = cc reached in
    rw same (rw (legal, turn) refl)
turns_more pairs p q r (first ∷ columns) column reached legal turn = elim (cases_Bool (is_legal p first)) [
  | inl is ↦ rw is (option_and_then_some (λ next. after_turns pairs next columns) (after_turn pairs p first) q (rw is at reached)
      (λ next at later. rw at (turns_more pairs next q r columns column later legal turn)))
  | inr not_legal ↦ absurd (cc (rw not_legal at reached))
]

-- a threat's answer to a move, and what it leaves
pub record IsAnswer (threat : Threatened) (now : Position) (answer : Square) : Type 0 where
  pub playable : is_playable now answer ≡ true
  pub next : IsReached threat (after_move now answer.0)

-- each legal move at a position that is reached has one
pub answer_after : (threat : Threatened) (now : Position) (last : Square) → is_board (board_of threat.at) ≡ true
    → is_threat threat.at threat.group threat.pairs ≡ true → HasMoved threat now last → IsAnswer threat now (answer_of threat.pairs last)
answer_after threat now last board is moved = from (threat_gives threat.at threat.group threat.pairs is).0
    (threat_gives threat.at threat.group threat.pairs is).1
  where
    last_is : top_of moved.earlier last.0 ≡ last
    last_is = ap (λ r. (last.0, r)) (sym moved.row)

    from : (t : Square) → target threat.at threat.group ≡ Some t → IsAnswer threat now (answer_of threat.pairs last)
    from t lacks = by (threat_answers threat.at threat.group threat.pairs t moved.reached.columns moved.earlier last.0 board is lacks moved.reached.leads
        moved.legal)
      where
        by : IsAnswered threat.at t threat.pairs moved.earlier last.0 → IsAnswer threat now (answer_of threat.pairs last)
        by answered =
            subst (λ u. IsAnswer threat now (answer_of threat.pairs u)) last_is
            (subst (λ r. IsAnswer threat r (answer_of threat.pairs (top_of moved.earlier last.0))) (sym moved.now_is) (record {
              playable = answered.playable;
              next = record {
                columns = moved.reached.columns ++ last.0 ∷ [];
                leads = turns_more threat.pairs threat.at moved.earlier (answered_move threat.pairs moved.earlier last.0) moved.reached.columns last.0
                    moved.reached.leads moved.legal (turn_is threat.pairs moved.earlier last.0 answered.going);
              };
            }))

-- ---- the answer in code

-- the answer of a threat that is kept as these fields
pub answer_kept : (p : Position) (g : Group) (pairs : List Pair) (threat : Threatened) (now : Position) (last : Square) → threat_with p g pairs ≡ threat
    → is_board (board_of p) ≡ true → is_threat p g pairs ≡ true → HasMoved threat now last → IsAnswer threat now (answer_of threat.pairs last)
answer_kept p g pairs threat now last same board is moved = answer_after threat now last
    (subst (λ (x : Threatened). is_board (board_of x.at) ≡ true) same board)
    (subst (λ (x : Threatened). is_threat x.at x.group x.pairs ≡ true) same is) moved

-- the partner that was found is that answer
pub partner_found : (p : Position) (g : Group) (pairs xs : List Pair) (threat : Threatened) (last : Square) (o : Option Square) (square : Square)
    → threat_with p g pairs ≡ threat → xs ≡ pairs → o ≡ partner xs last → o ≡ Some square → square ≡ answer_of threat.pairs last
partner_found p g pairs xs threat last o square same items found some =
    sym (ap (λ o. unwrap_or o (above last)) some)
    ∙ ap (λ o. unwrap_or o (above last)) (found ∙ ap (λ xs. partner xs last) (items ∙ ap (λ (x : Threatened). x.pairs) same))

-- where no pair has the square, the square above is that answer
pub alone_found : (p : Position) (g : Group) (pairs xs : List Pair) (threat : Threatened) (last : Square) (o : Option Square) → threat_with p g pairs ≡ threat
    → xs ≡ pairs → o ≡ partner xs last → o ≡ None → above last ≡ answer_of threat.pairs last
alone_found p g pairs xs threat last o same items found none =
    sym (ap (λ o. unwrap_or o (above last)) none)
    ∙ ap (λ o. unwrap_or o (above last)) (found ∙ ap (λ xs. partner xs last) (items ∙ ap (λ (x : Threatened). x.pairs) same))

-- and White's man falls onto Black's there
pub above_found : (threat : Threatened) (now : Position) (last : Square) (column : ℕ) (o : Option Square) → above last ≡ answer_of threat.pairs last
    → IsAnswer threat now (answer_of threat.pairs last) → column ≡ last.0 → o ≡ lowest_empty now column → o ≡ Some (above last)
above_found threat now last column o alone answer same found =
    found ∙ ap (lowest_empty now) same ∙ on_top now (above last) (ap (is_playable now) alone ∙ answer.playable)
