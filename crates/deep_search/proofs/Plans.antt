-- What the search rests on where it answers by a plan, and where there is none.
use Rattle.std.proofs.Common.{◌≡◌, ◌↔◌, ℕ, true, false, List, length, Option, Some, None, IfSome, is_none, is_some, refl, sym, ap, ◌∙◌, subst, inl, inr}
use Rattle.std.proofs.lemmas.Bool.{cases_Bool, and_parts, both_ways}
use Rattle.game_rules.specs.Board.{below}
use Rattle.game_rules.specs.Position.{Position, played, end_of, same_side, side_to_move, has_room, after_move, open_columns, moved}
use Rattle.game_rules.specs.Value.{wins}
use Rattle.game_rules.specs.declared.End.{End}
use Rattle.game_rules.specs.declared.Side.{Side}
use Rattle.game_rules.specs.declared.Side.TheVariants.{White, Black}
use Rattle.game_rules.specs.Questions.{side_asked}
use Rattle.game_rules.specs.declared.Question.{Question}
use Rattle.game_rules.specs.declared.Question.TheVariants.{WhiteWins, BlackWins}
use Rattle.game_rules.specs.contracts.QuestionPartialEq.TheImpl as question_eq
use Rattle.plan_rules.specs.Rules.{RuleInstance}
use Rattle.plan_rules.specs.Plan.{is_plan}
use Rattle.game_rules.proofs.Lists.{any_from, Among-map, Among-filter, Among-below}
use Rattle.game_rules.proofs.Moves.{same_side_is, room_column}
use Rattle.game_rules.proofs.Values.{wins_own}
use Rattle.proof_text.specs.Lemma.{claim_side, claim_for, Reason, ByEnd, ByOne, ByAll, ByPlan, ByMirror, Lemma}
use Rattle.proof_text.specs.Right.{Shown, HasReason}
use Rattle.walk_rules.specs.Walk.{solved, Chosen, gave, no_plan, spent, choice_of, is_given}
use Rattle.walk_rules.proofs.Choices.{choice_words, solved_is, solved_going, solved_not_won}
use Rattle.deep_search.specs.Planned.{solved_within, chosen_plan, plan_for, plan_in, IsPlanned}

-- no plan is chosen at a position that isn't solved
pub plan_none : (k : ℕ) (side : Side) (p : Position) → solved_within k side p ≡ false → plan_for k side p ≡ None
plan_none k Black p h = refl
plan_none k White p h = none (choice_of p k) (sym (solved_is p k) ∙ h)
  where
    none : (chosen : Chosen) → is_given chosen ≡ false → chosen_plan chosen ≡ None
    none (gave ws) h = cc
    none no_plan h = refl
    none spent h = refl

-- White's question is answered by what is chosen
pub solved_chosen : (k : ℕ) (question : Question) (p : Position) → question_eq.eq-value.it question BlackWins ≡ false
    → is_given (choice_of p k) ≡ solved_within k (side_asked question) p
solved_chosen k WhiteWins p h = sym (solved_is p k)
solved_chosen k BlackWins p h = cc

-- a position is solved only where White is asked about and is to move, and the game goes on
pub solved_white : (k : ℕ) (side : Side) (p : Position) → solved_within k side p ≡ true → side ≡ White
solved_white k White p h = refl
solved_white k Black p h = cc

pub solved_own : (k : ℕ) (side : Side) (p : Position) → solved_within k side p ≡ true → same_side side (side_to_move p) ≡ true
solved_own k Black p h = cc
solved_own k White p h = (and_parts (same_side White (side_to_move p)) (is_none (end_of p)) (solved_going p k h)).0

pub ended_open : (k : ℕ) (side : Side) (p : Position) (end : End) → end_of p ≡ Some end → solved_within k side p ≡ false
ended_open k Black p end ended = refl
ended_open k White p end ended = elim (cases_Bool (solved p k)) [
  | inl solved_here ↦ absurd (going_ended (end_of p) ended (and_parts (same_side White (side_to_move p)) (is_none (end_of p)) (solved_going p k solved_here)).1)
  | inr open_here ↦ open_here
]
  where
    going_ended : (e : Option End) → e ≡ Some end → is_none e ≡ true → ⊥
    going_ended None h going = cc
    going_ended (Some other) h going = cc

pub some_open : (k : ℕ) (side : Side) (p : Position) → is_some (end_of p) ≡ true → solved_within k side p ≡ false
some_open k side p some = of_end (end_of p) refl some
  where
    of_end : (e : Option End) → end_of p ≡ e → is_some e ≡ true → solved_within k side p ≡ false
    of_end None h some = cc
    of_end (Some end) h some = ended_open k side p end h

-- the side doesn't win at a solved position
pub solved_lost : (k : ℕ) (side : Side) (p : Position) → solved_within k side p ≡ true → false ≡ wins side p
solved_lost k Black p h = cc
solved_lost k White p h = sym (solved_not_won p k h)

-- where the side to move wins, no plan is chosen: White doesn't win at a solved position, and is to move there
pub won_open : (k : ℕ) (side : Side) (p : Position) → wins (side_to_move p) p ≡ true → solved_within k side p ≡ false
won_open k side p won = elim (cases_Bool (solved_within k side p)) [
  | inr open_here ↦ open_here
  | inl solved_here ↦
      let mover : side ≡ side_to_move p = same_side_is side (side_to_move p) (solved_own k side p solved_here) in
      absurd (both_ways (wins side p) (sym (solved_lost k side p solved_here)) (ap (λ s. wins s p) mover ∙ won))
]

-- the side to move wins where it wins after a move into a column that has room
pub won_by_move : (p : Position) (c : ℕ) → end_of p ≡ None → has_room p c ≡ true → wins (side_to_move p) (after_move p c) ≡ true
    → wins (side_to_move p) p ≡ true
won_by_move p c going room won = wins_own (side_to_move p) p going refl ∙ any_from (wins (side_to_move p)) (moved p) (after_move p c)
    (Among-map (after_move p) (open_columns p) c
    (Among-filter (has_room p) (below (length p.columns)) c (Among-below (length p.columns) c (room_column p c room)) room)) won

-- and the plan that is chosen shows it
pub plan_reason : (known : List Shown) (k : ℕ) (side : Side) (p : Position) (ws : List RuleInstance) → plan_for k side p ≡ Some ws
    → HasReason known p (claim_for side false) (ByPlan ws)
plan_reason known k Black p ws h = cc
plan_reason known k White p ws h = record { claimed = refl; plan = chosen (choice_of p k) refl h }
  where
    chosen : (choice : Chosen) → choice_of p k ≡ choice → chosen_plan choice ≡ Some ws → is_plan p ws ≡ true
    chosen no_plan is h = cc
    chosen spent is h = cc
    chosen (gave list) is h =
        let same : list ≡ ws = cc in
        let first = (choice_words p k (gave list)).0 is in
        subst (λ list. is_plan p list ≡ true) same first.is_plan_now

-- ---- in words

chosen_gave : (chosen : Chosen) (ws : List RuleInstance) → chosen_plan chosen ≡ Some ws → chosen ≡ gave ws
chosen_gave (gave list) ws h = let same : list ≡ ws = cc in ap gave same
chosen_gave no_plan ws h = cc
chosen_gave spent ws h = cc

plan_by : (reason : Reason) (ws : List RuleInstance) → plan_in reason ≡ Some ws → reason ≡ ByPlan ws
plan_by ByEnd ws h = cc
plan_by (ByOne cite) ws h = cc
plan_by (ByAll cites) ws h = cc
plan_by (ByMirror n) ws h = cc
plan_by (ByPlan list) ws h = let same : list ≡ ws = cc in ap ByPlan same

pub planned_words : (k : ℕ) (root p : Position) (l : Lemma) (ws : List RuleInstance) → played root l.path ≡ Some p → IsPlanned k root l
    → (l.reason ≡ ByPlan ws) ↔ ((claim_side l.claim ≡ White) × (side_to_move p ≡ White) × (solved p k ≡ true) × (choice_of p k ≡ gave ws))
planned_words k root p l ws along planned = (
  (λ rests. of_side (claim_side l.claim) refl (sym same ∙ ap plan_in rests)),
  (λ words. plan_by l.reason ws (same ∙ ap (λ side. plan_for k side p) words.0 ∙ ap chosen_plan words.3)),
)
  where
    same : plan_in l.reason ≡ plan_for k (claim_side l.claim) p
    same = subst (λ at. IfSome at (λ p. plan_in l.reason ≡ plan_for k (claim_side l.claim) p)) along planned

    of_side : (side : Side) → claim_side l.claim ≡ side → plan_for k (claim_side l.claim) p ≡ Some ws
        → (claim_side l.claim ≡ White) × (side_to_move p ≡ White) × (solved p k ≡ true) × (choice_of p k ≡ gave ws)
    of_side Black is h = absurd (no_plan_for (sym (ap (λ side. plan_for k side p) is) ∙ h))
      where
        no_plan_for : plan_for k Black p ≡ Some ws → ⊥
        no_plan_for none = cc
    of_side White is h =
        let choice : choice_of p k ≡ gave ws = chosen_gave (choice_of p k) ws (sym (ap (λ side. plan_for k side p) is) ∙ h) in
        let solved_here : solved p k ≡ true = solved_is p k ∙ ap is_given choice in
        (is, sym (same_side_is White (side_to_move p) (solved_own k White p solved_here)), solved_here, choice)
