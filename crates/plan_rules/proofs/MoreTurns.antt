-- A turn behind some turns.
use Rattle.std.proofs.Common.{◌≡◌, ℕ, true, List, [], ◌∷◌, ◌++◌, Some, refl, inl, inr}
use Rattle.std.proofs.lemmas.Option.{option_and_then_some}
use Rattle.std.proofs.lemmas.Bool.{cases_Bool}
use Rattle.game_rules.specs.Position.{Position, is_legal, after_move}
use Rattle.plan_rules.specs.Rules.{RuleInstance}
use Rattle.plan_rules.specs.Plan.{after_turn, after_turns, IsAnswered}

pub turns_more : (ws : List RuleInstance) (p q r : Position) (columns : List ℕ) (column : ℕ) → after_turns ws p columns ≡ Some q → is_legal q column ≡ true
    → after_turn ws q column ≡ Some r
    → after_turns ws p (columns ++ column ∷ []) ≡ Some r
turns_more ws p q r [] column reached legal turn =
    let same : p ≡ q = cc reached in
    rw same (rw (legal, turn) refl)
turns_more ws p q r (first ∷ columns) column reached legal turn = elim (cases_Bool (is_legal p first)) [
  | inl is ↦ rw is (option_and_then_some (λ next. after_turns ws next columns) (after_turn ws p first) q (rw is at reached)
      (λ next at later. rw at (turns_more ws next q r columns column later legal turn)))
  | inr not_legal ↦ absurd (cc (rw not_legal at reached))
]

-- a move of White's that a plan answers, and the answer, are a turn
pub turn_made : (ws : List RuleInstance) (q : Position) (column : ℕ) (answered : IsAnswered ws q column)
    → after_turn ws q column ≡ Some (after_move (after_move q column) answered.reply.0)
turn_made ws q column answered = rw (answered.going, answered.is_reply) refl
