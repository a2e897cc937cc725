-- What a walk has found among the sets of a part of it, for whatever sets come after that part.
use Rattle.std.specs.Prelude.{◌≡◌, ℕ, true, List, Some, slice_get}
use Rattle.game_rules.specs.Board.{Square}
use Rattle.game_rules.specs.Position.{Position}
use Rattle.game_rules.specs.Squares.{IsSetOf}
use Rattle.plan_rules.specs.Rules.{RuleInstance}
use Rattle.plan_rules.specs.Refusal.{is_uncovered}
use Rattle.walk_rules.specs.Walk.{Chosen, gave, no_plan, spent, given, is_plan_position, choice_among}
use Rattle.walk_rules.specs.Steps.{is_zone_set}
use Rattle.rule_chooser.specs.declared.visit.WalkOutcome.{WalkOutcome}
use Rattle.rule_chooser.specs.declared.visit.WalkOutcome.TheVariants as outcomes

-- the list of a set that gives a plan is chosen; where no set does, what is left decides among the sets that come after
abbrev pub goes_on : Position → ℕ → List (List RuleInstance) → List RuleInstance → WalkOutcome → Chosen
goes_on p left rest set outcomes.Plan = gave (given p set)
goes_on p left rest set outcomes.NoPlan = choice_among p left rest
goes_on p left rest set outcomes.Spent = spent

-- what is chosen among all sets
abbrev pub chosen_by : Position → List RuleInstance → WalkOutcome → Chosen
chosen_by p set outcomes.Plan = gave (given p set)
chosen_by p set outcomes.NoPlan = no_plan
chosen_by p set outcomes.Spent = spent

-- and where the list is the one that is given
abbrev pub choice_shown : List RuleInstance → WalkOutcome → Chosen
choice_shown list outcomes.Plan = gave list
choice_shown list outcomes.NoPlan = no_plan
choice_shown list outcomes.Spent = spent

-- A set of zones at a position with a walk leaves these squares open.
pub record LeavesOpen (p : Position) (set : List RuleInstance) (squares : List Square) : Type 0 where
  pub going : is_plan_position p ≡ true
  pub is_set : is_zone_set p set ≡ true
  pub open_squares : IsSetOf (is_uncovered p set) squares

-- This is the first of them.
pub record OpensAt (p : Position) (set : List RuleInstance) (squares : List Square) (first : Square) : Type 0 where
  pub leaves : LeavesOpen p set squares
  pub at : slice_get squares 0 ≡ Some first
