-- Which instance answers a group: the first that bars it, and the member that a plan names by its place.
use Rattle.std.proofs.Common.{◌≡◌, ℕ, zero, suc, ◌-◌, ◌<◌, ◌≤◌, Bool, true, false, not, List, [], ◌∷◌, Option, Some, None, is_some, is_none, refl, sym, ap, ◌∙◌}
use Rattle.std.proofs.Common.{subst, arith, slice_get}
use Rattle.std.specs.List.{list_any, find}
use Rattle.game_rules.specs.Position.{Position, board_of, has_man}
use Rattle.game_rules.specs.Groups.{Group, squares_of, lies_on}
use Rattle.game_rules.specs.declared.Side.TheVariants.{Black}
use Rattle.plan_rules.specs.Rules.{RuleInstance, facts_of, barred}
use Rattle.plan_rules.specs.Plan.{is_plan, empty_part}
use Rattle.plan_rules.specs.Refusal.{answering}
use Rattle.plan_rules.proofs.RefusalWords.{answer_none, answer_first}
use Rattle.explain_text.specs.Explanation.{is_white, answerer}

-- the first that passes is what is found
first_found : {X : Type 0} (test : X → Bool) (xs : List X) (i : ℕ) (x : X) → slice_get xs i ≡ Some x → test x ≡ true
    → ((j : ℕ) (y : X) → j < i → slice_get xs j ≡ Some y → test y ≡ false) → find test xs ≡ Some x
first_found test [] i x at passes earlier = absurd (cc at)
first_found test (y ∷ ys) zero x at passes earlier = let same : y ≡ x = cc at in rw (same, passes) refl
first_found test (y ∷ ys) (suc i) x at passes earlier = rw (earlier 0 y (omega arith) refl)
    (first_found test ys i x at passes (λ j z less at. earlier (suc j) z (omega arith) at))

-- the member at a place, counted from 1, is the first that bars a group of White's
pub record IsNamed (p : Position) (ws : List RuleInstance) (g : Group) (place : ℕ) : Type 0 where
  pub counted : 1 ≤ place
  pub member : RuleInstance
  pub at : slice_get ws (place - 1) ≡ Some member
  pub answers : answerer p ws g ≡ Some member
  pub white : is_white p g ≡ true

pub named : (p : Position) (ws : List RuleInstance) (g : Group) (place : ℕ) → answering p ws g ≡ Some place → IsNamed p ws g place
named p ws g place h =
    let found = (answer_first p ws g place).0 h in
    let first = found.1 in
    record {
      counted = omega (arith, first.counted);
      member = first.element;
      at = subst (λ k. slice_get ws k ≡ Some first.element) (omega (arith, first.counted)) first.at;
      answers = first_found (λ w. barred w (facts_of p ws) (empty_part p g)) ws first.index first.element first.at first.passes first.earlier;
      white = ap not found.0;
    }

-- a plan names none for a group exactly where it has a man of Black's
pub none_named : (p : Position) (ws : List RuleInstance) (g : Group) → is_plan p ws ≡ true → lies_on (board_of p) g ≡ true
    → is_none (answering p ws g) ≡ not (is_white p g)
none_named p ws g plan lies = answer_none p ws g plan lies ∙ twice (list_any (has_man p Black) (squares_of g))
  where
    twice : (b : Bool) → b ≡ not (not b)
    twice true = refl
    twice false = refl

pub white_answered : (p : Position) (ws : List RuleInstance) (g : Group) → is_plan p ws ≡ true → lies_on (board_of p) g ≡ true → is_white p g ≡ true
    → is_some (answerer p ws g) ≡ true
white_answered p ws g plan lies white = by_place (answering p ws g) refl
  where
    by_place : (place : Option ℕ) → answering p ws g ≡ place → is_some (answerer p ws g) ≡ true
    by_place None at = absurd (cc (sym (ap is_none at) ∙ none_named p ws g plan lies ∙ ap not white))
    by_place (Some i) at = ap is_some (named p ws g i at).answers
