-- Why a list is no plan, in words: each fault exactly where its own condition holds and that of no fault before it; and
-- which member answers a line.
use Rattle.std.proofs.Common.{◌≡◌, ◌≢◌, ◌↔◌, ℕ, Bool, true, false, not, if◌then◌else◌, List, Option, Some, None, is_some, is_none, refl, sym, ap, ◌∙◌, subst}
use Rattle.std.proofs.Common.{inl, inr}
use Rattle.std.specs.List.{list_any, find, position_from}
use Rattle.std.specs.Option.{option_map, option_or}
use Rattle.std.proofs.lemmas.Bool.{both_ways, not-false, not_from_true, not_from_false, false_from_ne_true}
use Rattle.std.proofs.lemmas.Option.{same_Some}
use Rattle.game_rules.specs.Board.{Square}
use Rattle.game_rules.specs.Position.{Position, board_of, has_man, side_to_move, same_side, end_of}
use Rattle.game_rules.specs.Squares.{squares_of_board, Precedes as SquarePrecedes}
use Rattle.game_rules.specs.Groups.{Group, squares_of, lies_on, groups_of, Precedes as GroupPrecedes}
use Rattle.game_rules.specs.declared.Side.{Side}
use Rattle.game_rules.specs.declared.Side.TheVariants.{White, Black}
use Rattle.game_rules.specs.declared.End.{End}
use Rattle.game_rules.proofs.Lists.{any_from, all_from}
use Rattle.game_rules.proofs.Moves.{same_side_is}
use Rattle.game_rules.proofs.Squares.{has_gives, Among-board}
use Rattle.game_rules.proofs.Groups.{squares_in_order, groups_in_order, Among-groups, Among-groups_gives}
use Rattle.plan_rules.specs.Rules.{RuleInstance, fits, facts_of, barred, is_supported, together}
use Rattle.plan_rules.specs.Plan.{empty_part, is_plan, IsMember, SomeMember}
use Rattle.plan_rules.specs.Zones.{first_two_from, IsFirstAt}
use Rattle.plan_rules.specs.Refusal.{PlanFault, not_white_to_move, ended, misfit, clash, uncovered, unsupported, unanswered, is_uncovered, is_unanswered}
use Rattle.plan_rules.specs.Refusal.{members_refusal, cover_refusal, plan_refusal, first_barring, answering, StandTogether, IsGoing, IsCovered, IsSupported}
use Rattle.plan_rules.specs.Refusal.{IsRefusal}
use Rattle.plan_rules.proofs.Turns.{empty_parts}
use Rattle.plan_rules.proofs.Plans.{none_is, plan_gives}
use Rattle.plan_rules.proofs.PlaceWords.{place_gives, place_from, place_none, none_at, two_gives, two_from, find_from}
use Rattle.plan_rules.proofs.Refusals.{no_place, no_two, no_find}
use Rattle.plan_rules.proofs.FaultWords.{or_gives, or_none, map_gives, map_none, uncovered_gives, uncovered_from, unanswered_gives, unanswered_from}
use Rattle.plan_rules.proofs.FaultWords.{squares_one_way, groups_one_way, together_gives, first_uncovered, first_unanswered, covered_gives}

-- ---- from a fault to its condition

other_than_white : (side : Side) → same_side White side ≡ false → side ≡ Black
other_than_white White h = absurd (cc h)
other_than_white Black h = refl

-- each of some members fits
abbrev AllFit : Position → List RuleInstance → Type 0
AllFit p ws = (i : ℕ) (w : RuleInstance) → IsMember ws i w → fits w p ≡ true

all_fit : (p : Position) (ws : List RuleInstance) → position_from (λ w. not (fits w p)) 1 ws ≡ None → AllFit p ws
all_fit p ws none i w member = not-false (fits w p) (none_at (λ w. not (fits w p)) 1 ws none i w member)

members_say : (p : Position) (ws : List RuleInstance) (fault : PlanFault) → IsGoing p → members_refusal p ws ≡ Some fault → IsRefusal p ws fault
members_say p ws fault going h = elim (or_gives _ _ fault h) [
  | inl first ↦
      let found = map_gives misfit (position_from (λ w. not (fits w p)) 1 ws) fault first in
      subst (IsRefusal p ws) found.2 (going, place_gives (λ w. not (fits w p)) 1 ws found.0 found.1)
  | inr second ↦
      let fit = map_none misfit (position_from (λ w. not (fits w p)) 1 ws) second.0 in
      let found = map_gives (λ (two : ℕ × ℕ). clash two.0 two.1) (first_two_from together 1 ws) fault second.1 in
      subst (IsRefusal p ws) found.2 (going, all_fit p ws fit, two_gives together 1 ws found.0.0 found.0.1 found.1)
]

cover_says : (p : Position) (ws : List RuleInstance) (fault : PlanFault) → IsGoing p → StandTogether p ws → cover_refusal p ws ≡ Some fault
    → IsRefusal p ws fault
cover_says p ws fault going members h = elim (or_gives _ _ fault h) [
  | inl first ↦
      let found = map_gives uncovered (find (is_uncovered p ws) (squares_of_board (board_of p))) fault first in
      subst (IsRefusal p ws) found.2 (going, members, first_uncovered p ws found.0 found.1)
  | inr later ↦
      let cover = covered_gives p ws members (map_none uncovered (find (is_uncovered p ws) (squares_of_board (board_of p))) later.0) in
      elim (or_gives _ _ fault later.1) [
        | inl second ↦
            let found = map_gives unsupported (position_from (λ w. not (is_supported w (facts_of p ws))) 1 ws) fault second in
            subst (IsRefusal p ws) found.2 (going, cover, place_gives (λ w. not (is_supported w (facts_of p ws))) 1 ws found.0 found.1)
        | inr third ↦
            let none = map_none unsupported (position_from (λ w. not (is_supported w (facts_of p ws))) 1 ws) third.0 in
            let support : IsSupported p ws = record {
              cover = cover;
              supported = λ i w member. not-false (is_supported w (facts_of p ws)) (none_at (λ w. not (is_supported w (facts_of p ws))) 1 ws none i w member);
            } in
            let found = map_gives unanswered (find (is_unanswered p ws) (groups_of (board_of p))) fault third.1 in
            subst (IsRefusal p ws) found.2 (going, support, first_unanswered p ws found.0 found.1)
      ]
]

pub refusal_says : (p : Position) (ws : List RuleInstance) (fault : PlanFault) → plan_refusal p ws ≡ Some fault → IsRefusal p ws fault
refusal_says p ws fault h = by_side (same_side White (side_to_move p)) refl (end_of p) refl h
  where
    by_side : (white : Bool) → same_side White (side_to_move p) ≡ white → (end : Option End) → end_of p ≡ end
        → (if not white then Some not_white_to_move else (if is_some end then Some ended else option_or (members_refusal p ws) (cover_refusal p ws)))
        ≡ Some fault → IsRefusal p ws fault
    by_side false side end over h = subst (IsRefusal p ws) (same_Some not_white_to_move fault h) (other_than_white (side_to_move p) side)
    by_side true side (Some end) over h = subst (IsRefusal p ws) (same_Some ended fault h)
        (sym (same_side_is White (side_to_move p) side), λ none. absurd (cc (none, over)))
    by_side true side None over h =
        let going : IsGoing p = record { white = sym (same_side_is White (side_to_move p) side); going = over } in
        elim (or_gives (members_refusal p ws) (cover_refusal p ws) fault h) [
          | inl members ↦ members_say p ws fault going members
          | inr cover ↦
              let parts = or_none (option_map misfit (position_from (λ w. not (fits w p)) 1 ws))
              (option_map (λ (two : ℕ × ℕ). clash two.0 two.1) (first_two_from together 1 ws)) cover.0 in
              let fit = map_none misfit (position_from (λ w. not (fits w p)) 1 ws) parts.0 in
              let stand = map_none (λ (two : ℕ × ℕ). clash two.0 two.1) (first_two_from together 1 ws) parts.1 in
              cover_says p ws fault going (together_gives p ws fit stand) cover.1
        ]

-- ---- from the condition to the fault

-- what White's turn, a game that goes on, and the five searches make of it
abbrev first_fault : Option ℕ → Option (ℕ × ℕ) → Option Square → Option ℕ → Option Group → Option PlanFault
first_fault i two u j g =
    option_or (option_or (option_map misfit i) (option_map (λ (two : ℕ × ℕ). clash two.0 two.1) two))
    (option_or (option_map uncovered u) (option_or (option_map unsupported j) (option_map unanswered g)))

first_fault_if : (white : Bool) (end : Option End) (later : Option PlanFault) → white ≡ true → end ≡ None
    → (if not white then Some not_white_to_move else (if is_some end then Some ended else later)) ≡ later
first_fault_if white end later side over = rw (side, over) refl

first_fault_clash : (i : Option ℕ) (two : Option (ℕ × ℕ)) (u : Option Square) (j : Option ℕ) (g : Option Group) (first second : ℕ) → i ≡ None
    → two ≡ Some (first, second) → first_fault i two u j g ≡ Some (clash first second)
first_fault_clash i two u j g first second none found = ap (λ i. first_fault i two u j g) none ∙ ap (λ two. first_fault None two u j g) found

first_fault_cover : (i : Option ℕ) (two : Option (ℕ × ℕ)) (u : Option Square) (j : Option ℕ) (g : Option Group) → i ≡ None → two ≡ None
    → first_fault i two u j g ≡ first_fault None None u j g
first_fault_cover i two u j g fit stand = ap (λ i. first_fault i two u j g) fit ∙ ap (λ two. first_fault None two u j g) stand

told_going : (p : Position) (ws : List RuleInstance) → IsGoing p → plan_refusal p ws ≡ option_or (members_refusal p ws) (cover_refusal p ws)
told_going p ws going = first_fault_if (same_side White (side_to_move p)) (end_of p) (option_or (members_refusal p ws) (cover_refusal p ws))
    (ap (same_side White) going.white) going.going

told_together : (p : Position) (ws : List RuleInstance) → IsGoing p → StandTogether p ws → plan_refusal p ws ≡ cover_refusal p ws
told_together p ws going members =
    told_going p ws going
    ∙ first_fault_cover (position_from (λ w. not (fits w p)) 1 ws) (first_two_from together 1 ws)
    (find (is_uncovered p ws) (squares_of_board (board_of p))) (position_from (λ w. not (is_supported w (facts_of p ws))) 1 ws)
    (find (is_unanswered p ws) (groups_of (board_of p)))
    (none_is _ (no_place (λ w. fits w p) 1 ws ∙ members.fitting)) (none_is _ (no_two together 1 ws ∙ members.standing))

no_uncovered : (p : Position) (ws : List RuleInstance) → IsCovered p ws → find (is_uncovered p ws) (squares_of_board (board_of p)) ≡ None
no_uncovered p ws cover = none_is _ (no_find (is_uncovered p ws) (squares_of_board (board_of p))
    ∙ all_from (λ u. not (is_uncovered p ws u)) (squares_of_board (board_of p))
    (λ u among. not_from_false _ (false_from_ne_true (is_uncovered p ws u) (λ h. cover.covered u (uncovered_gives p ws u h)))))

told_covered : (p : Position) (ws : List RuleInstance) → IsGoing p → IsCovered p ws
    → plan_refusal p ws ≡ option_or (option_map unsupported (position_from (λ w. not (is_supported w (facts_of p ws))) 1 ws))
    (option_map unanswered (find (is_unanswered p ws) (groups_of (board_of p))))
told_covered p ws going cover =
    told_together p ws going cover.members
    ∙ ap (λ u. option_or (option_map uncovered u) (option_or (option_map unsupported (position_from (λ w. not (is_supported w (facts_of p ws))) 1 ws))
    (option_map unanswered (find (is_unanswered p ws) (groups_of (board_of p))))))
    (no_uncovered p ws cover)

pub says_refusal : (p : Position) (ws : List RuleInstance) (fault : PlanFault) → IsRefusal p ws fault → plan_refusal p ws ≡ Some fault
says_refusal p ws not_white_to_move black =
    ap (λ white. if not white then Some not_white_to_move
    else (if is_some (end_of p) then Some ended else option_or (members_refusal p ws) (cover_refusal p ws))) (ap (same_side White) black)
says_refusal p ws ended is = by_end (end_of p) is.1
  where
    by_end : (end : Option End) → end ≢ None
        → (if not (same_side White (side_to_move p)) then Some not_white_to_move
        else (if is_some end then Some ended else option_or (members_refusal p ws) (cover_refusal p ws))) ≡ Some ended
    by_end None over = absurd (over refl)
    by_end (Some end) over = ap (λ side. if not (same_side White side) then Some not_white_to_move else Some ended) is.0
says_refusal p ws (misfit i) is =
    told_going p ws is.0
    ∙ ap (λ i. option_or (option_or (option_map misfit i) (option_map (λ (two : ℕ × ℕ). clash two.0 two.1) (first_two_from together 1 ws)))
    (cover_refusal p ws)) (place_from (λ w. not (fits w p)) 1 ws i is.1)
says_refusal p ws (clash i j) is =
    told_going p ws is.0
    ∙ first_fault_clash (position_from (λ w. not (fits w p)) 1 ws) (first_two_from together 1 ws)
    (find (is_uncovered p ws) (squares_of_board (board_of p))) (position_from (λ w. not (is_supported w (facts_of p ws))) 1 ws)
    (find (is_unanswered p ws) (groups_of (board_of p))) i j
    (place_none (λ w. not (fits w p)) 1 ws (λ k w member. not_from_true (fits w p) (is.1 k w member))) (two_from together 1 ws i j is.2)
says_refusal p ws (uncovered u) is =
    let one = is.2.is_one in
    let found = find_from SquarePrecedes (is_uncovered p ws) (squares_of_board (board_of p)) u (squares_in_order (board_of p)) squares_one_way
    (Among-board (board_of p) u (empty_parts p u one.empty).0) (uncovered_from p ws u one) (λ v among h. is.2.first v (uncovered_gives p ws v h)) in
    told_together p ws is.0 is.1
    ∙ ap (λ u. option_or (option_map uncovered u) (option_or (option_map unsupported (position_from (λ w. not (is_supported w (facts_of p ws))) 1 ws))
    (option_map unanswered (find (is_unanswered p ws) (groups_of (board_of p)))))) found
says_refusal p ws (unsupported i) is =
    told_covered p ws is.0 is.1
    ∙ ap (λ i. option_or (option_map unsupported i) (option_map unanswered (find (is_unanswered p ws) (groups_of (board_of p)))))
    (place_from (λ w. not (is_supported w (facts_of p ws))) 1 ws i is.2)
says_refusal p ws (unanswered g) is =
    let one = is.2.is_one in
    let none = place_none (λ w. not (is_supported w (facts_of p ws))) 1 ws
    (λ k w member. not_from_true (is_supported w (facts_of p ws)) (is.1.supported k w member)) in
    let found = find_from GroupPrecedes (is_unanswered p ws) (groups_of (board_of p)) g (groups_in_order (board_of p)) groups_one_way
    (Among-groups (board_of p) g one.line) (unanswered_from p ws g one)
    (λ h among left. is.2.first h (unanswered_gives p ws h (Among-groups_gives (board_of p) h among) left)) in
    told_covered p ws is.0 is.1.cover
    ∙ ap (λ i. option_or (option_map unsupported i) (option_map unanswered (find (is_unanswered p ws) (groups_of (board_of p))))) none
    ∙ ap (option_map unanswered) found

-- ---- the member that answers a line

-- of a plan some member answers each line of the board without a Black man
pub answer_none : (p : Position) (ws : List RuleInstance) (g : Group) → is_plan p ws ≡ true → lies_on (board_of p) g ≡ true
    → is_none (answering p ws g) ≡ list_any (has_man p Black) (squares_of g)
answer_none p ws g plan lies = by_man (list_any (has_man p Black) (squares_of g)) refl
  where
    some_bar : list_any (has_man p Black) (squares_of g) ≡ false → SomeMember ws (λ w. barred w (facts_of p ws) (empty_part p g) ≡ true)
    some_bar none = (plan_gives p ws plan).answered g lies (λ u owned. false_from_ne_true (has_man p Black u) (λ black.
        both_ways (list_any (has_man p Black) (squares_of g)) none (any_from (has_man p Black) (squares_of g) u (has_gives (squares_of g) u owned) black)))

    found : (place : Option ℕ) → first_barring p ws g ≡ place → list_any (has_man p Black) (squares_of g) ≡ false → is_none place ≡ false
    found (Some i) at none = refl
    found None at none =
        let some = some_bar none in
        absurd (both_ways (barred some.member (facts_of p ws) (empty_part p g))
        (none_at (λ w. barred w (facts_of p ws) (empty_part p g)) 1 ws at some.place some.member some.is_member) some.has_it)

    by_man : (black : Bool) → list_any (has_man p Black) (squares_of g) ≡ black → is_none (if black then None else first_barring p ws g) ≡ black
    by_man true man = refl
    by_man false man = found (first_barring p ws g) refl man

pub answer_first : (p : Position) (ws : List RuleInstance) (g : Group) (i : ℕ)
    → (answering p ws g ≡ Some i) ↔ ((list_any (has_man p Black) (squares_of g) ≡ false) × IsFirstAt (λ w. barred w (facts_of p ws) (empty_part p g)) 1 ws i)
answer_first p ws g i = (to (list_any (has_man p Black) (squares_of g)), from)
  where
    to : (black : Bool) → (if black then None else first_barring p ws g) ≡ Some i
        → (black ≡ false) × IsFirstAt (λ w. barred w (facts_of p ws) (empty_part p g)) 1 ws i
    to true h = absurd (cc h)
    to false h = (refl, place_gives (λ w. barred w (facts_of p ws) (empty_part p g)) 1 ws i h)

    from : (list_any (has_man p Black) (squares_of g) ≡ false) × IsFirstAt (λ w. barred w (facts_of p ws) (empty_part p g)) 1 ws i → answering p ws g ≡ Some i
    from h = ap (λ (black : Bool). if black then None else first_barring p ws g) h.0 ∙ place_from (λ w. barred w (facts_of p ws) (empty_part p g)) 1 ws i h.1
